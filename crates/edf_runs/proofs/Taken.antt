-- Files by onset of a card and of its pieces are accepted.
use Rattle.std.proofs.Common.{◌≡◌, ℕ, ◌≤◌, List, [], ◌∷◌, ◌++◌, length, All, Contains}
use Rattle.std.proofs.Common.{sym, subst, inl, inr}
use Rattle.std.specs.List.{AllZip, AllByRecursion}
use Rattle.std.proofs.lemmas.List.Elements.{All-nil, All-cons, All-head, All-tail, All-append}
use Rattle.std.proofs.lemmas.List.Elements.{All-weaker, All-contains, All-contains_itself}
use Rattle.std.proofs.lemmas.List.Elements.{Contains-append_right, length_all_zip}
use Rattle.edf_field.specs.Number.{duration_of}
use Rattle.edf_header.specs.Key.{Key}
use Rattle.edf_fragment.specs.Fragment.{DataRecord, IsFragmentFile}
use Rattle.edf_fragment.specs.Sound.{AreSoundFrom}
use Rattle.edf_fragment.specs.Parsed.{Parsed, Fragment, ParsesTo}
use Rattle.edf_fragment.proofs.Parsed.{one-parse}
use Rattle.edf_canonical.specs.File.{IsCanonicalFile}
use Rattle.edf_canonical.proofs.Files.{its-own}
use Rattle.edf_holdings.specs.ConflictFree.{IsFragment, HasRecordUnder, SameRecords}
use Rattle.edf_holdings.specs.Holdings.{Holdings, IsSound, with_records}
use Rattle.edf_holdings.specs.Reply.{IsAccepted, IsWellFormed, after, reply, replies, after_one}
use Rattle.edf_holdings.proofs.ConflictFree.{IsAmong, IsAmong-from_Any, Any-from_IsAmong}
use Rattle.edf_holdings.proofs.ParsedIsWellFormed.{parsed_is_well_formed}
use Rattle.edf_runs.specs.ByOnset.{by_onset, AreAlike}
use Rattle.edf_runs.specs.OneByOnset.{outside_count, IsPieceOf}
use Rattle.edf_runs.specs.Taken.{PiecesAndCardAreTaken}
use Rattle.edf_runs.proofs.ByOnset.{stay-alike}
use Rattle.edf_runs.proofs.Members.{contains-first, contains-cases}
use Rattle.edf_runs.proofs.Pieces.{pieces-are-of-card}
use Rattle.edf_runs.proofs.Rejoined.{whole, file-told, told-sound, told-as-whole}

-- ---- files whose data records are among these

pub record IsPart (k : Key) (rs : List DataRecord) (file : List ℕ) : Type 0 where
  pub part : List DataRecord
  pub among : All (Contains rs) part
  pub spells : IsFragmentFile file k part

record TellsPart (k : Key) (rs : List DataRecord) (told : Parsed) : Type 0 where
  part : List DataRecord
  among : All (Contains rs) part
  is : told ≡ Fragment k part

module _ (k : Key) (rs : List DataRecord) where
  all-tell : (files : List (List ℕ)) (tolds : List Parsed) → AllZip ParsesTo files tolds →
      All (IsPart k rs) files → AllByRecursion (TellsPart k rs) tolds
  all-tell [] [] tell are = tt
  all-tell [] (told ∷ tolds) tell are = absurd tell
  all-tell (file ∷ files) [] tell are = absurd tell
  all-tell (file ∷ files) (told ∷ tolds) tell are =
      let one = All-head (IsPart k rs) file files are in (
        record {
          part = one.part;
          among = one.among;
          is = one-parse file told (Fragment k one.part) tell.0 one.spells;
        },
        all-tell files tolds tell.1 (All-tail (IsPart k rs) file files are),
      )

  all-fragments : (tolds : List Parsed) → AllByRecursion (TellsPart k rs) tolds →
      AllByRecursion IsFragment tolds
  all-fragments [] tell = tt
  all-fragments (told ∷ tolds) tell =
      (subst IsFragment (sym tell.0.is) tt, all-fragments tolds tell.1)

  told-in : (tolds : List Parsed) (q : Key) (r : DataRecord) →
      AllByRecursion (TellsPart k rs) tolds → IsAmong q r tolds → (k ≡ q) × Contains rs r
  told-in [] q r tell has = absurd has
  told-in (told ∷ tolds) q r tell (inl here) =
      let has : HasRecordUnder q r (Fragment k tell.0.part) =
      subst (HasRecordUnder q r) tell.0.is here in
      (has.0, All-contains (Contains rs) tell.0.part r tell.0.among has.1)
  told-in (told ∷ tolds) q r tell (inr later) = told-in tolds q r tell.1 later

-- where one of the files spells them all
same-as-whole : (k : Key) (rs : List DataRecord) (file : List ℕ) (files : List (List ℕ))
    (tolds : List Parsed) → IsFragmentFile file k rs → Contains files file →
    All (IsPart k rs) files → AllZip ParsesTo files tolds → SameRecords (whole k rs) tolds
same-as-whole k rs file files tolds spells is-one are tell q r = (
  (λ any. Any-from_IsAmong q r tolds (forth (IsAmong-from_Any q r (whole k rs) any))),
  (λ any. Any-from_IsAmong q r (whole k rs) (back (IsAmong-from_Any q r tolds any))),
)
  where
    forth : IsAmong q r (whole k rs) → IsAmong q r tolds
    forth (inl has) = file-told files tolds file k q rs r tell is-one spells has
    forth (inr none) = absurd none

    back : IsAmong q r tolds → IsAmong q r (whole k rs)
    back among = inl (told-in k rs tolds q r (all-tell k rs files tolds tell are) among)

-- ---- one file more

one-more : (files : List (List ℕ)) (tolds : List Parsed) (file : List ℕ) (told : Parsed) →
    AllZip ParsesTo files tolds → ParsesTo file told →
    AllZip ParsesTo (files ++ file ∷ []) (tolds ++ told ∷ [])
one-more [] [] file told tell one = (one, tt)
one-more [] (t ∷ ts) file told tell one = absurd tell
one-more (f ∷ fs) [] file told tell one = absurd tell
one-more (f ∷ fs) (t ∷ ts) file told tell one = (tell.0, one-more fs ts file told tell.1 one)

-- the first of submissions are answered as if no others followed
front-accepted : (cap : ℕ) (h : Holdings) (tolds others : List Parsed) →
    All IsAccepted (replies cap h (tolds ++ others)) → All IsAccepted (replies cap h tolds)
front-accepted cap h [] others all = All-nil IsAccepted
front-accepted cap h (t ∷ ts) others all =
    let next = after_one cap h t in
    All-cons IsAccepted (reply cap h t) (replies cap next ts)
    (All-head IsAccepted (reply cap h t) (replies cap next (ts ++ others)) all)
    (front-accepted cap next ts others
    (All-tail IsAccepted (reply cap h t) (replies cap next (ts ++ others)) all))

-- they are accepted, and leave all of the data records where one of the files has them all
pub parts-are-taken : (cap : ℕ) (h : Holdings) (k : Key) (rs : List DataRecord) (file : List ℕ)
    (files : List (List ℕ)) (tolds : List Parsed) → IsSound cap h → h k ≡ [] → length rs ≤ cap →
    IsFragmentFile file k rs → All (IsPart k rs) files → AllZip ParsesTo files tolds →
    All IsAccepted (replies cap h tolds)
    × (Contains files file → (after cap h tolds ≡ with_records k rs h) × (after cap h tolds k ≡ rs))
parts-are-taken cap h k rs file files tolds sound none few spells parts tell =
    let told : IsWellFormed (Fragment k rs) = parsed_is_well_formed file (Fragment k rs) spells in
    let one : IsPart k rs file =
    record { part = rs; among = All-contains_itself rs; spells = spells } in
    let files-too = files ++ file ∷ [] in
    let tolds-too = tolds ++ whole k rs in
    let tell-too : AllZip ParsesTo files-too tolds-too =
    one-more files tolds file (Fragment k rs) tell spells in
    let parts-too : All (IsPart k rs) files-too =
    All-append (IsPart k rs) files (file ∷ []) parts
    (All-cons (IsPart k rs) file [] one (All-nil (IsPart k rs))) in
    let all = told-as-whole cap h k rs tolds-too sound none told few
    (told-sound files-too tolds-too tell-too)
    (all-fragments k rs tolds-too (all-tell k rs files-too tolds-too tell-too parts-too))
    (same-as-whole k rs file files-too tolds-too spells
    (Contains-append_right files (file ∷ []) file (contains-first file [])) parts-too tell-too) in (
      front-accepted cap h tolds (whole k rs) all.0,
      λ is-one.
          let ends = told-as-whole cap h k rs tolds sound none told few
          (told-sound files tolds tell)
          (all-fragments k rs tolds (all-tell k rs files tolds tell parts))
          (same-as-whole k rs file files tolds spells is-one parts tell) in
          (ends.1, ends.2),
    )

-- ---- the files of a card

-- by onset each of its pieces, and itself, has data records of the card
module _ (k : Key) (card : List DataRecord) (sound : AreSoundFrom k 0 card)
    (within : outside_count (duration_of k.duration) card ≡ 0) where
  abbrev IsPiece : List DataRecord → Type 0
  IsPiece piece = AreSoundFrom k 0 piece × IsPieceOf (duration_of k.duration) card piece

  among-card : (pieces : List (List DataRecord)) (one : List DataRecord) → All IsPiece pieces →
      Contains (card ∷ pieces) one → All (Contains (by_onset card)) (by_onset one)
  among-card pieces one are c = elim (contains-cases card pieces one c) [
    | inl same ↦
        subst (λ l. All (Contains (by_onset card)) (by_onset l)) same
        (All-contains_itself (by_onset card))
    | inr later ↦
        let is = All-contains IsPiece pieces one are later in
        pieces-are-of-card k card one sound is.0 is.1 within
  ]

  abbrev IsFile : List (List DataRecord) → List ℕ → Type 0
  IsFile pieces file = (one : List DataRecord) × Contains (card ∷ pieces) one
      × IsCanonicalFile file k (by_onset one)

  are-parts : (pieces : List (List DataRecord)) (files : List (List ℕ)) → All IsPiece pieces →
      All (IsFile pieces) files → All (IsPart k (by_onset card)) files
  are-parts pieces files pieces-are are =
      All-weaker (IsFile pieces) (IsPart k (by_onset card)) (λ file is. record {
        part = by_onset is.0;
        among = among-card pieces is.0 pieces-are is.1;
        spells = its-own file k (by_onset is.0) is.2;
      }) files are

pub pieces-and-card-are-taken : PiecesAndCardAreTaken
pieces-and-card-are-taken cap h k card pieces file files tolds sound none card-sound few within is
    pieces-are are tell =
    let rs = by_onset card in
    let few-too : length rs ≤ cap =
    subst (λ n. n ≤ cap) (sym (length_all_zip AreAlike rs card (stay-alike k card card-sound).0))
    few in
    parts-are-taken cap h k rs file files tolds sound none few-too (its-own file k rs is)
    (are-parts k card card-sound within pieces files pieces-are are) tell
