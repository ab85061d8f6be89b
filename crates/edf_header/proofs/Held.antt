-- What an identity's bytes keep: the key's parts where they are, its signals as rows.
use Rattle.std.proofs.Common.{◌≡◌, ℕ, zero, suc, ◌+◌, ◌-◌, ◌*◌, ◌/◌, List, ◌∷◌, ◌++◌, length}
use Rattle.std.proofs.Common.{length-append, append_assoc, take, drop, cond, Bool, true, false}
use Rattle.std.proofs.Common.{arith, refl, sym, ap, ◌∙◌, subst, inl, inr}
use Rattle.std.proofs.lemmas.List.{take_all, length-drop, length-take, get_or_at}
use Rattle.std.proofs.lemmas.List.Elements.{All-nil, All-cons, All-replicate}
use Rattle.edf_header.specs.Identity.{HasLength, HasMark, signals_at, IsShaped}
use Rattle.edf_header.specs.Key.{IsKey, IsSized, Key, dated_bytes, key_at, key_bytes}
use Rattle.edf_field.specs.Number.{field}
use Rattle.edf_header.specs.Signal.{HasSamples, Passes, ordinary, rows, rows_of, samples_in_all}
use Rattle.edf_field.specs.Text.{spaces, subfields}
use Rattle.std.specs.Prelude.{All, slice_index, ◌==◌}
use Rattle.std.specs.List.{flat_map}
use Rattle.edf_header.specs.declared.signal_checks.Check.TheVariants.{Label, Samples}
use Rattle.edf_field.proofs.Grammar.{spaces-are}
use Rattle.edf_header.proofs.Strides.{length-field, length-parts}
use Rattle.edf_header.proofs.Keys.{key-back, field-at}
use Rattle.edf_header.proofs.SignalKinds.{all-ordinary}
use Rattle.edf_header.proofs.RowSteps.{length-rows}

-- what a loop over the bytes from 158 on looks through are the key's signals
pub sliced : (b : List ℕ) → rows_of (take (length b - 158) (drop 158 b)) ≡ signals_at b
sliced b =
    let e : take (length b - 158) (drop 158 b) ≡ drop 158 b =
    take_all (length b - 158) (drop 158 b) (omega (arith, length-drop 158 b)) in
    ap rows_of e ∙ ap (λ (n : ℕ). rows (n / 256) (drop 158 b)) (length-drop 158 b)

pub count-is : (b : List ℕ) (n : ℕ) → length b ≡ 158 + 256 * n → length (signals_at b) ≡ n
count-is b n len = omega (arith, length-rows ((length b - 158) / 256) (drop 158 b), len)

pub shaped : (b : List ℕ) → HasLength b → HasMark b → IsShaped b
shaped b len mark = record {
  signals = len.0;
  len = len.3;
  dated = elim mark [
    | inl d ↦ inl (
      d.0,
      spaces-are (field b 140 10) 10
          (length-field b 140 10 (omega (arith, len.1, len.3))) d.1,
    )
    | inr x ↦ inr x
  ];
}

sized-rows : (n : ℕ) (b : List ℕ) → length b ≡ 256 * n → All (λ s. length s ≡ 256) (rows n b)
sized-rows zero b len = All-nil (λ (s : List ℕ). length s ≡ 256)
sized-rows (suc n) b len =
    All-cons (λ (s : List ℕ). length s ≡ 256) (take 256 b) (rows n (drop 256 b))
    (omega (arith, length-take 256 b))
    (sized-rows n (drop 256 b) (omega (arith, length-drop 256 b)))

after-len : (b : List ℕ) → HasLength b → (t : Bool) →
    length (field b 81 (cond t 59 69)) ≡ cond t 59 69
after-len b len true = length-field b 81 59 (omega (arith, len.1, len.3))
after-len b len false = length-field b 81 69 (omega (arith, len.1, len.3))

pub sized : (b : List ℕ) → HasLength b → IsSized (key_at b)
sized b len =
    let after : (t : Bool) → length (field b 81 (cond t 59 69)) ≡ cond t 59 69 = after-len b len in
    let n : (length b - 158) / 256 ≡ len.0 = omega (arith, len.3) in
    record {
      patient = length-field b 0 80 (omega (arith, len.1, len.3));
      after = after (slice_index b 80 == 68);
      duration = length-field b 150 8 (omega (arith, len.1, len.3));
      signals = rw n (sized-rows len.0 (drop 158 b) (omega (arith, len.3, length-drop 158 b)));
    }

length-mark : (dated : Bool) (a : List ℕ) → length a ≡ cond dated 59 69 →
    length (dated_bytes dated a) ≡ 70
length-mark true a la = omega (arith, length-append a (spaces 10))
length-mark false a la = omega arith

pub key-length : (k : Key) → IsSized k → length (key_bytes k) ≡ 158 + 256 * length k.signals
key-length k s =
    let tail : List ℕ = flat_map (λ (s : List ℕ). s) k.signals in
    omega (
      arith,
      s.patient,
      s.duration,
      length-mark k.dated k.after s.after,
      length-parts (λ (s : List ℕ). s) 256 k.signals s.signals,
      length-append k.patient (dated_bytes k.dated k.after ++ (k.duration ++ tail)),
      length-append (dated_bytes k.dated k.after) (k.duration ++ tail),
      length-append k.duration tail,
    )

pub key-mark : (dated : Bool) (p a rest : List ℕ) → length p ≡ 80 → length a ≡ cond dated 59 69 →
    HasMark (p ++ (dated_bytes dated a ++ rest))
key-mark true p a rest lp la =
    let b : List ℕ = p ++ (68 ∷ (a ++ spaces 10) ++ rest) in
    let is : b ≡ (p ++ 68 ∷ a) ++ (spaces 10 ++ rest) =
    ap (λ (l : List ℕ). p ++ 68 ∷ l) (append_assoc a (spaces 10) rest)
    ∙ sym (append_assoc p (68 ∷ a) (spaces 10 ++ rest)) in
    let e : field b 140 10 ≡ spaces 10 =
    field-at (p ++ 68 ∷ a) (spaces 10) rest b 140 10 is
    (omega (arith, length-append p (68 ∷ a))) refl in
    inl (
      get_or_at p 68 ((a ++ spaces 10) ++ rest) 0 80 lp,
      subst (All (λ x. x ≡ 32)) (sym e) (All-replicate (λ (x : ℕ). x ≡ 32) 10 32 refl),
    )
key-mark false p a rest lp la = inr (get_or_at p 88 (a ++ rest) 0 80 lp)

-- what an identity made of a key's bytes is
pub held : (k : Key) (bytes : List ℕ) → bytes ≡ key_bytes k → IsKey k → key_at bytes ≡ k
held k bytes is i = ap key_at is ∙ key-back k i.sized

pub keeps : (k : Key) (bytes : List ℕ) → bytes ≡ key_bytes k → IsKey k →
    (key_bytes (key_at bytes) ≡ bytes) × IsKey (key_at bytes)
keeps k bytes is i = let e = held k bytes is i in (ap key_bytes e ∙ sym is, subst IsKey (sym e) i)

-- the samples of the rows in an identity's bytes, all of them ordinary
pub sliced-samples : (b : List ℕ) → All (Passes Label) (signals_at b) →
    samples_in_all (ordinary (rows_of (take (length b - 158) (drop 158 b)))) ≡ samples_in_all
    (signals_at b)
sliced-samples b all = ap (λ (l : List (List ℕ)). samples_in_all (ordinary l)) (sliced b)
    ∙ ap samples_in_all (all-ordinary (signals_at b) all)

pub sliced-each : (b : List ℕ) → All (Passes Samples) (signals_at b) →
    All HasSamples (rows_of (take (length b - 158) (drop 158 b)))
sliced-each b all = subst (All HasSamples) (sym (sliced b)) all

pub held-len : (b : List ℕ) → (key_bytes (key_at b) ≡ b) → IsKey (key_at b) →
    length b ≡ 158 + 256 * length (signals_at b)
held-len b is key = sym (ap length is) ∙ key-length (key_at b) key.sized

-- what a slice of the bytes reads
pub patient-read : (d b : List ℕ) (k : Key) (found : List (List ℕ)) → d ≡ b → key_at b ≡ k →
    subfields (field d 0 80) ≡ found → subfields k.patient ≡ found
patient-read d b k found is view read = ap (λ (k : Key). subfields k.patient) (sym view)
    ∙ ap (λ (l : List ℕ). subfields (field l 0 80)) (sym is) ∙ read

pub after-read : (d b text : List ℕ) (k : Key) (found : List (List ℕ)) → d ≡ b → key_at b ≡ k →
    text ≡ (key_at d).after → subfields text ≡ found → subfields k.after ≡ found
after-read d b text k found is view text-is read =
    ap (λ (k : Key). subfields k.after) (sym view)
    ∙ ap (λ (l : List ℕ). subfields (key_at l).after) (sym is) ∙ ap subfields (sym text-is)
    ∙ read
