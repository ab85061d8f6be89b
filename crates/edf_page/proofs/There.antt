-- What is there of names in a folder in memory, where files are begun, ended or removed.
use Rattle.std.proofs.Common.{◌≡◌, ◌≢◌, ℕ, List, [], ◌∷◌, ◌++◌, Bool, true, false, ◌||◌, ◌&&◌, not}
use Rattle.std.proofs.Common.{if◌then◌else◌, Option, Some, None, Ok, Err, inl, inr, refl, sym}
use Rattle.std.proofs.Common.{subst}
use Rattle.std.proofs.Common.{ap, ◌∙◌, ◌⊎◌}
use Rattle.std.specs.Prelude.{String, bytes_eq}
use Rattle.std.specs.Bool.{MatchBool, Decides}
use Rattle.std.specs.Global.{Global}
use Rattle.std.proofs.lemmas.Slice.Eq.{bytes_eq-Decides}
use Rattle.edf_cli.specs.Made.{MadeFile, made_file, begun, finished, removed}
use Rattle.edf_cli.specs.There.{Entry, There, IsVacant, MayBeThere, IsSame, IsNamed, HasName}
use Rattle.edf_cli.specs.There.{IsTakenAway}
use Rattle.edf_cli.specs.declared.new_files.FileStage.{FileStage}
use Rattle.edf_cli.specs.declared.new_files.Unfinished.{Unfinished}
use Rattle.edf_cli.specs.declared.new_files.Unfinished.TheVariants.{IsThere, Failed}
use Rattle.edf_page.specs.InsideFolder.{is_among, last_held, there_in, unforgotten}
use Rattle.edf_page.specs.Programs.{given_there}
use Rattle.edf_page.proofs.LastHeld.{held-last, held-removed}

-- ---- truth values

no : {P : Type 0} (b : Bool) → Decides b P → ¬ P → b ≡ false
no true decides none = absurd (none (decides.0 refl))
no false decides none = refl

or-false : (b : Bool) → (b || false) ≡ b
or-false true = refl
or-false false = refl

abbrev found : Bool → Option (List ℕ) → Entry
found b held = if b then Some held else None

is-found : (b : Bool) (held : Option (List ℕ)) → MatchBool b (found b held ≢ None)
    (found b held ≡ None)
is-found true held = λ is. cc
is-found false held = refl

module _ (own bytes : List ℕ) where
  pub match-there : (b : Bool) (names : List (String Global)) (files : List MadeFile)
      (name : List ℕ) → b ≡ is_among names name →
      MatchBool b (MayBeThere (there_in own bytes names files) name)
      (IsVacant (there_in own bytes names files) name)
  match-there b names files name is = subst (λ (r : Bool). MatchBool r
      (MayBeThere (there_in own bytes names files) name)
      (IsVacant (there_in own bytes names files) name)) (sym is) (is-found (is_among names name) _)

  same-at : (names names' : List (String Global)) (files files' : List MadeFile) (other : List ℕ) →
      is_among names' other ≡ is_among names other →
      ((was : Option (List ℕ)) → last_held files' other was ≡ last_held files other was) →
      there_in own bytes names' files' other ≡ there_in own bytes names files other
  same-at names names' files files' other among held =
      ap (λ (b : Bool). Some (found b (last_held files' other
      (if bytes_eq own other then Some bytes else None)))) among
      ∙ ap (λ (h : Option (List ℕ)). Some (found (is_among names other) h)) (held _)

  pub same-there : (names : List (String Global)) (files files' : List MadeFile) →
      ((other : List ℕ) (was : Option (List ℕ)) →
      last_held files' other was ≡ last_held files other was) →
      IsSame (there_in own bytes names files) (there_in own bytes names files')
  same-there names files files' held other =
      same-at names names files files' other refl (held other)

  -- a file is ended
  module _ (names names' : List (String Global)) (files : List MadeFile) (name : List ℕ) where
    pub ended-there : (held : List ℕ) (count : ℕ) → is_among names name ≡ false →
        ((other : List ℕ) → is_among names' other ≡ (is_among names other || bytes_eq name other)) →
        IsNamed (there_in own bytes names (files ++ (begun name ∷ [])))
        (there_in own bytes names' (files ++ (finished name (Some held) ∷ []))) name (Some held)
        (Ok count)
    ended-there held count free more =
        let now = finished name (Some held) in
        let same : bytes_eq name name ≡ true = (bytes_eq-Decides name name).1 refl in (
          ap (λ (b : Bool). found b (last_held (files ++ (begun name ∷ [])) name
              (if bytes_eq own name then Some bytes else None))) free,
          ap (λ (b : Bool). Some (found b (last_held (files ++ (now ∷ [])) name
              (if bytes_eq own name then Some bytes else None))))
              (more name ∙ ap (λ (b : Bool). b || bytes_eq name name) free ∙ same)
              ∙ ap (λ (h : Option (List ℕ)). Some (Some h)) (held-last files now name _
              ∙ ap (λ (b : Bool). if b then Some held else last_held files name
              (if bytes_eq own name then Some bytes else None)) same),
          λ other differs.
              let apart = no (bytes_eq name other) (bytes_eq-Decides name other)
              (λ is. differs (sym is)) in
              same-at names names' (files ++ (begun name ∷ [])) (files ++ (now ∷ [])) other
              (more other ∙ ap (λ (b : Bool). is_among names other || b) apart
              ∙ or-false (is_among names other))
              (λ was. held-last files now other was ∙ ap (λ (b : Bool). if b then Some held
              else last_held files other was) apart
              ∙ sym (held-last files (begun name) other was)),
        )

    pub failed-there : (stage : FileStage) (held : Option (List ℕ)) (reason : Option Unfinished)
        (why : Unfinished) → (why ≡ IsThere → is_among names name ≡ true) →
        IsNamed (there_in own bytes names (files ++ (begun name ∷ [])))
        (there_in own bytes names (files ++ (made_file name stage false held reason ∷ []))) name
        held
        (Err why)
    failed-there stage held reason why there =
        let same = same-there names (files ++ (begun name ∷ []))
        (files ++ (made_file name stage false held reason ∷ [])) (λ other was.
        held-last files (made_file name stage false held reason) other was
        ∙ sym (held-last files (begun name) other was)) in
        of why there same
      where
        of : (w : Unfinished) → (w ≡ IsThere → is_among names name ≡ true) →
            IsSame (there_in own bytes names (files ++ (begun name ∷ [])))
            (there_in own bytes names (files ++ (made_file name stage false held reason ∷ []))) →
            IsNamed (there_in own bytes names (files ++ (begun name ∷ [])))
            (there_in own bytes names (files ++ (made_file name stage false held reason ∷ []))) name
            held (Err w)
        of IsThere there same = (
          subst (λ (b : Bool). found b (last_held (files ++ (begun name ∷ [])) name
              (if bytes_eq own name then Some bytes else None)) ≢ None) (sym (there refl))
              (λ is. cc),
          same,
        )
        of Failed there same = same

  -- one is removed, which had its name or not
  module _ (names names' : List (String Global)) (front later : List MadeFile) (file : MadeFile)
    where
      pub left-there : (names' ≡ names) → ¬ HasName file →
          IsTakenAway (there_in own bytes names (front ++ (file ∷ later)))
          (there_in own bytes names' (front ++ (removed file ∷ later))) file true
      left-there same none =
          let all = subst (λ (ns : List (String Global)). IsSame
          (there_in own bytes names (front ++ (file ∷ later)))
          (there_in own bytes ns (front ++ (removed file ∷ later)))) (sym same)
          (same-there names (front ++ (file ∷ later)) (front ++ (removed file ∷ later))
          (held-removed front later file)) in
          record {
            others = λ other differs. all other;
            gone = λ has. absurd (none has);
            unchanged = λ why. all file.name;
          }

      pub gone-there : (name : List ℕ) → name ≡ file.name → HasName file →
          ((other : List ℕ) → is_among names' other
          ≡ (not (bytes_eq other name) && is_among names other)) →
          IsTakenAway (there_in own bytes names (front ++ (file ∷ later)))
          (there_in own bytes names' (front ++ (removed file ∷ later))) file true
      gone-there name is has fewer = record {
        others = λ other differs. same-at names names' (front ++ (file ∷ later))
            (front ++ (removed file ∷ later)) other
            (fewer other ∙ ap (λ (b : Bool). not b && is_among names other)
            (no (bytes_eq other name) (bytes_eq-Decides other name) (λ e. differs (e ∙ is))))
            (held-removed front later file other);
        gone = λ has gone. ap (λ (b : Bool). Some (found b (last_held (front ++ (removed file ∷
            later))
            file.name (if bytes_eq own file.name then Some bytes else None))))
            (fewer file.name ∙ ap (λ (b : Bool). not b && is_among names file.name)
            ((bytes_eq-Decides file.name name).1 (sym is)));
        unchanged = λ why. absurd (of why);
      }
        where
          of : (¬ HasName file) ⊎ (true ≡ false) → ⊥
          of (inl none) = none has
          of (inr is) = cc

-- ---- at first

same-found : (b : Bool) (bytes : List ℕ) →
    found b (if b then Some bytes else None) ≡ (if b then Some (Some bytes) else None)
same-found true bytes = refl
same-found false bytes = refl

pub fresh-there : (name bytes own held : List ℕ) (names : List (String Global))
    (files : List MadeFile) → own ≡ name → held ≡ bytes → files ≡ [] →
    ((other : List ℕ) → is_among names other ≡ bytes_eq name other) →
    (other : List ℕ) → there_in own held names files other ≡ given_there name bytes other
fresh-there name bytes own held names files own_is held_is none among other =
    ap (λ (o : List ℕ). there_in o held names files other) own_is
    ∙ ap (λ (h : List ℕ). there_in name h names files other) held_is
    ∙ ap (λ (fs : List MadeFile). there_in name bytes names fs other) none
    ∙ ap (λ (b : Bool). Some (found b (if bytes_eq name other then Some bytes else None)))
    (among other)
    ∙ ap Some (same-found (bytes_eq name other) bytes)

pub unforgotten-none : (b : Bool) (files : List MadeFile) → files ≡ [] → unforgotten b files ≡ []
unforgotten-none true files none = refl
unforgotten-none false files none = none

unforgotten-all : (b : Bool) (files front later : List MadeFile) (file : MadeFile) →
    unforgotten b files ≡ front ++ (file ∷ later) → files ≡ front ++ (file ∷ later)
unforgotten-all true files [] later file is = absurd (cc)
unforgotten-all true files (x ∷ front) later file is = absurd (cc)
unforgotten-all false files front later file is = is

-- ---- at each call

module _ (own held own' held' : List ℕ) (names names' : List (String Global))
    (b : Bool) (files files' : List MadeFile) (own_same : own' ≡ own) (held_same : held' ≡ held)
  where
    to : (P : There → Type 0) → P (there_in own held names' files') →
        P (there_in own' held' names' files')
    to P p = subst (λ (o : List ℕ). P (there_in o held' names' files')) (sym own_same)
        (subst (λ (h : List ℕ). P (there_in own h names' files')) (sym held_same) p)

    pub ended : (front : List MadeFile) (name bytes : List ℕ) (count : ℕ) →
        unforgotten b files ≡ front ++ (begun name ∷ []) →
        (files ≡ front ++ (begun name ∷ []) → files' ≡ front ++ (finished name (Some bytes) ∷ [])) →
        (files ≡ front ++ (begun name ∷ []) → (is_among names name ≡ false)
        × ((other : List ℕ) → is_among names' other ≡ (is_among names other || bytes_eq name
        other))) →
        IsNamed (there_in own held names files) (there_in own' held' names' files') name (Some
        bytes)
        (Ok count)
    ended front name bytes count now ends more =
        let here = unforgotten-all b files front [] (begun name) now in
        to (λ new. IsNamed (there_in own held names files) new name (Some bytes) (Ok count))
        (subst (λ (fs : List MadeFile). IsNamed (there_in own held names fs)
        (there_in own held names' files') name (Some bytes) (Ok count)) (sym here)
        (subst (λ (fs : List MadeFile). IsNamed
        (there_in own held names (front ++ (begun name ∷ [])))
        (there_in own held names' fs) name (Some bytes) (Ok count)) (sym (ends here))
        (ended-there own held names names' front name bytes count (more here).0 (more here).1)))

    module _ (front later : List MadeFile) (file : MadeFile)
        (now : unforgotten b files ≡ front ++ (file ∷ later))
        (ends : files ≡ front ++ (file ∷ later) → files' ≡ front ++ (removed file ∷ later)) where
      by : IsTakenAway (there_in own held names (front ++ (file ∷ later)))
          (there_in own held names' (front ++ (removed file ∷ later))) file true →
          IsTakenAway (there_in own held names files) (there_in own' held' names' files') file true
      by away =
          let here = unforgotten-all b files front later file now in
          to (λ new. IsTakenAway (there_in own held names files) new file true)
          (subst (λ (fs : List MadeFile). IsTakenAway (there_in own held names fs)
          (there_in own held names' files') file true) (sym here)
          (subst (λ (fs : List MadeFile). IsTakenAway
          (there_in own held names (front ++ (file ∷ later)))
          (there_in own held names' fs) file true) (sym (ends here)) away))

      pub taken : (name : List ℕ) → (files ≡ front ++ (file ∷ later) →
          HasName file × (name ≡ file.name)) →
          ((other : List ℕ) → is_among names' other
          ≡ (not (bytes_eq other name) && is_among names other)) →
          IsTakenAway (there_in own held names files) (there_in own' held' names' files') file true
      taken name has fewer =
          let is = has (unforgotten-all b files front later file now) in
          by (gone-there own held names names' front later file name is.1 is.0 fewer)

      pub untaken : names' ≡ names → (files ≡ front ++ (file ∷ later) → ¬ HasName file) →
          IsTakenAway (there_in own held names files) (there_in own' held' names' files') file true
      untaken same none = by (left-there own held names names' front later file same
          (none (unforgotten-all b files front later file now)))
