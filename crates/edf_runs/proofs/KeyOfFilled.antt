-- The key of a filled file.
use Rattle.std.proofs.Common.{◌≡◌, ℕ, ◌+◌, ◌*◌, ◌/◌, ◌≤◌, ◌<◌, List, [], ◌∷◌, ◌++◌}
use Rattle.std.proofs.Common.{length, map, take}
use Rattle.std.proofs.Common.{append_assoc, append-nil}
use Rattle.std.proofs.Common.{drop, get_or, All, refl, sym, ap, ◌∙◌, subst, arith, length-append}
use Rattle.std.proofs.Common.{◌-◌}
use Rattle.std.specs.Prelude.{Bool, true, false, ◌==◌, if◌then◌else◌}
use Rattle.std.specs.Fmt.{decimal}
use Rattle.std.specs.List.{flat_map}
use Rattle.std.proofs.lemmas.Fmt.{length-decimal-le}
use Rattle.std.proofs.lemmas.Grind.{flat_map-append}
use Rattle.std.proofs.lemmas.Nat.{div-add-mod', mul-le}
use Rattle.std.proofs.lemmas.List.{length-take-le, length-drop, length-replicate, take_more}
use Rattle.std.proofs.lemmas.List.{map-append}
use Rattle.std.proofs.lemmas.List.Sums.{get_or-le-sum_by}
use Rattle.std.proofs.lemmas.List.Elements.{All-map}
use Rattle.edf_time.specs.Decimal.{short}
use Rattle.edf_field.specs.Text.{padded_to, spaces}
use Rattle.edf_field.specs.Number.{field}
use Rattle.edf_header.specs.Fields.{key_mark}
use Rattle.edf_header.specs.Key.{Key, IsKey, IsSized, key_bytes, key_at}
use Rattle.edf_header.specs.Signal.{rows_of, samples}
use Rattle.edf_header.proofs.Cited.{key-back}
use Rattle.edf_runs.specs.Filled.{IsMarked, IsFilledKey}
use Rattle.edf_runs.specs.Inside.Renaming.{divided_row, divided_rows}
use Rattle.edf_runs.proofs.Rows.{within-rows}

padded-long : (text : List ℕ) → length text ≤ 8 → length (padded_to 8 text) ≡ 8
padded-long text le =
    let space : ℕ = 32 in
    length-append text (spaces (8 - length text))
    ∙ omega (arith, le, length-replicate (8 - length text) space)

-- a row that names another number is as long
row-long : (b : Bool) (row text : List ℕ) → length row ≡ 256 → length text ≤ 8 →
    length (if b then row else take 216 row ++ padded_to 8 text ++ drop 224 row) ≡ 256
row-long true row text long le = long
row-long false row text long le =
    length-append (take 216 row ++ padded_to 8 text) (drop 224 row)
    ∙ omega (
      arith,
      length-append (take 216 row) (padded_to 8 text),
      length-take-le 216 row (omega (arith, long)),
      padded-long text le,
      length-drop 224 row,
      long,
    )

-- what has the bytes of a filled file's identity has its key
pub filled-key : (k key : Key) (g u : ℕ) (after' duration' : List ℕ) → IsKey k → IsKey key →
    IsMarked k.after after' → length duration' ≡ 8 →
    duration' ≡ (if g == 1 then k.duration else padded_to 8 (short u)) →
    All (λ row. length (decimal (samples row / g)) ≤ 8) k.signals →
    key_bytes key ≡ key_bytes (record {
      patient = k.patient;
      dated = k.dated;
      after = after';
      duration = duration';
      signals = map (divided_row g) k.signals;
    }) → IsFilledKey k g u key
filled-key k key g u after' duration' is is' marked long names few same =
    let other : Key = record {
      patient = k.patient;
      dated = k.dated;
      after = after';
      duration = duration';
      signals = map (divided_row g) k.signals;
    } in
    let rows : All (λ s. length s ≡ 256) (map (divided_row g) k.signals) =
    All-map (λ s. length s ≡ 256) (divided_row g) k.signals
    (λ i e lt. row-long (g == 1) (get_or k.signals i e)
    (decimal (samples (get_or k.signals i e) / g))
    (is.sized.signals i e lt) (few i e lt)) in
    let sized : IsSized other = record {
      patient = is.sized.patient;
      after = marked.4 ∙ is.sized.after;
      duration = long;
      signals = rows;
    } in
    let one : key ≡ other = sym (key-back key is'.sized) ∙ ap key_at same ∙ key-back other sized in
    subst (IsFilledKey k g u) (sym one) (record {
      same = (refl, refl);
      marked = marked;
      duration = names;
      signals = refl;
    })

-- ---- parts of the bytes of a key

pub patient-in : (k : Key) (bytes : List ℕ) → IsKey k → bytes ≡ key_bytes k →
    field bytes 0 80 ≡ k.patient
patient-in k bytes is same =
    ap (λ (b : List ℕ). field b 0 80) same ∙ ap (λ (x : Key). x.patient) (key-back k is.sized)

pub duration-in : (k : Key) (bytes : List ℕ) → IsKey k → bytes ≡ key_bytes k →
    field bytes 150 8 ≡ k.duration
duration-in k bytes is same =
    ap (λ (b : List ℕ). field b 150 8) same ∙ ap (λ (x : Key). x.duration) (key-back k is.sized)

pub after-in : (k : Key) (bytes : List ℕ) (b : Bool) → IsKey k → bytes ≡ key_bytes k →
    k.dated ≡ b → field bytes 81 (if b then 59 else 69) ≡ k.after
after-in k bytes b is same dated =
    let back = key-back k is.sized in
    let width : (key_mark (key_bytes k) == 68) ≡ b = ap (λ (x : Key). x.dated) back ∙ dated in
    ap (λ (l : List ℕ). field l 81 (if b then 59 else 69)) same
    ∙ ap (λ (x : Bool). field (key_bytes k) 81 (if x then 59 else 69)) (sym width)
    ∙ ap (λ (x : Key). x.after) back

-- ---- what is as long as it was

pub duration-long : (b : Bool) (old text : List ℕ) → length old ≡ 8 → length text ≤ 8 →
    length (if b then old else padded_to 8 text) ≡ 8
duration-long true old text long le = long
duration-long false old text long le = padded-long text le

less : (n g : ℕ) → 1 ≤ g → n / g ≤ n
less n g some =
    let e = div-add-mod' n g in
    let m : n / g * 1 ≤ n / g * g = mul-le (n / g) 1 (n / g) g (omega arith) some in
    omega (arith, e, m)

pub short-decimals : (k : Key) (g : ℕ) → IsKey k → 1 ≤ g →
    All (λ row. length (decimal (samples row / g)) ≤ 8) k.signals
short-decimals k g is some i e lt =
    let n = samples (get_or k.signals i e) in
    let few = get_or-le-sum_by samples k.signals i e lt in
    let le = less n g some in
    let size = is.size in
    length-decimal-le 8 (n / g) (omega arith) (omega (arith, few, le, size))
    (omega (arith, few, le, size))

-- ---- its rows

pub one-row : (g : ℕ) (bytes row before out new old : List ℕ) (i : ℕ) → i < length bytes / 256 →
    row ≡ get_or (rows_of bytes) i [] → new ≡ out ++ divided_row g row →
    out ≡ old ++ divided_rows g (take i (rows_of bytes)) →
    new ≡ old ++ divided_rows g (take (i + 1) (rows_of bytes))
one-row g bytes row before out new old i lt is now was =
    let rows = rows_of bytes in
    let id = λ (r : List ℕ). r in
    let done = take i rows in
    let all : divided_rows g (take (i + 1) rows) ≡ divided_rows g done ++ divided_row g row =
    ap (divided_rows g) (take_more rows i [] (within-rows bytes i lt))
    ∙ ap (λ (l : List (List ℕ)). flat_map id l)
    (map-append (divided_row g) done (get_or rows i [] ∷ []))
    ∙ flat_map-append id (map (divided_row g) done) (divided_row g (get_or rows i []) ∷ [])
    ∙ ap (λ (l : List ℕ). divided_rows g done ++ l) (append-nil (divided_row g (get_or rows i [])))
    ∙ ap (λ (l : List ℕ). divided_rows g done ++ divided_row g l) (sym is) in
    now
    ∙ ap (λ (l : List ℕ). l ++ divided_row g row) was
    ∙ append_assoc old (divided_rows g done) (divided_row g row)
    ∙ ap (λ (l : List ℕ). old ++ l) (sym all)
