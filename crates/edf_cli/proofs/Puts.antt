-- What is written, and what is answered, from what `send` did.
use Rattle.std.proofs.Common.{◌≡◌, ◌⊎◌, ℕ, ◌<◌, Bool, true, false, List, [], ◌++◌, length, take}
use Rattle.std.proofs.Common.{drop, refl, sym, ap, ◌∙◌, subst, inl, inr, take-append-drop}
use Rattle.std.proofs.Common.{append_assoc}
use Rattle.std.specs.Prelude.{Option, Result, Ok, Err, IfOk, MatchResult}
use Rattle.std.proofs.lemmas.List.{append-nil}
use Rattle.std.proofs.lemmas.Bool.{false≢true}
use Rattle.std.proofs.KnownBytes.{Appends-nil, Appends-trans}
use Rattle.std.specs.Bool.{MatchBool}
use Rattle.std.specs.Io.KnownBytes.{Appends}
use Rattle.edf_fragment.specs.Failures.{saturating_increment}
use Rattle.edf_fragment.specs.declared.streams.Output.{Ghosts}
use Rattle.edf_cli.specs.Output.{OutputChange, output_change, Gets, GetsPrefix}
use Rattle.edf_cli.specs.Output.{RunsOutOfMemoryForLine, IsPut, IsLineWritten}
use Rattle.edf_cli.specs.Output.{IsWritten, IsLinePrinted, AreLinesPrinted}
use Rattle.edf_cli.specs.declared.status.Status.{Status}
use Rattle.edf_cli.specs.declared.status.Status.TheVariants.{Trouble}

-- what a writer got, by the values before and after
abbrev pub grown : Option (List ℕ) → ℕ → Option (List ℕ) → ℕ → OutputChange
grown before failed_before after failed_after =
    record {
      before = before;
      failed_before = failed_before;
      after = after;
      failed_after = failed_after;
    }

abbrev pub IsSentBy : Option (List ℕ) → ℕ → Option (List ℕ) → ℕ → List ℕ → Bool → Type 0
IsSentBy before old after new bytes written = MatchBool written
    (Appends before after bytes × (new ≡ old))
    ((n : ℕ) × (n < length bytes) × Appends before after (take n bytes)
    × (new ≡ saturating_increment old))

pub put-sent : (before : Option (List ℕ)) (old : ℕ) (after : Option (List ℕ)) (new : ℕ)
    (bytes : List ℕ) (written : Bool)
    → IsSentBy before old after new bytes written → IsPut (grown before old after new) bytes written
put-sent before old after new bytes true s = s
put-sent before old after new bytes false s = (
  record {
    prefix = take s.0 bytes;
    remaining = drop s.0 bytes;
    parts = sym (take-append-drop s.0 bytes);
    wrote = s.2;
  },
  s.3,
)

module _ (w : OutputChange) where
  pub done-put : (bytes : List ℕ) (written : Bool) (wanted : Status) → IsPut w bytes written →
      written ≡ true → IsWritten w bytes wanted wanted
  done-put bytes true wanted p e = inl (p, refl)
  done-put bytes false wanted p e = absurd (false≢true e)

  pub trouble-put : (bytes : List ℕ) (written : Bool) (wanted : Status) → IsPut w bytes written →
      written ≡ false → IsWritten w bytes wanted Trouble
  trouble-put bytes false wanted p e = inr (p, refl)
  trouble-put bytes true wanted p e = absurd (false≢true (sym e))

  -- lines, of which one could not be written
  pub trouble-lines : (lines : ℕ → List ℕ) (count : ℕ) (wanted : Status) →
      GetsPrefix w (lines count)
      ⊎ RunsOutOfMemoryForLine w lines count → AreLinesPrinted w lines count wanted Trouble
  trouble-lines lines count wanted (inl cut) = inl (inr (cut, refl))
  trouble-lines lines count wanted (inr lacks) = inr (lacks, refl)

  -- ---- a line that is there, or is not since memory ran out
  module _ {T E : Type 0} (items : T → List ℕ) where
    abbrev pub IsPutBy : Result T E → Bool → Type 0
    IsPutBy line written = MatchResult line (λ l. IsPut w (items l) written) (λ _. Gets w []
        × (written ≡ false))

    abbrev pub IsToldBy : Result T E → Status → Status → Type 0
    IsToldBy line wanted status = MatchResult line (λ l. IsWritten w (items l) wanted status)
        (λ _. Gets w [] × (status ≡ Trouble))

    pub line-put : (line : Result T E) (written : Bool) (text : List ℕ) → IsPutBy line written →
        IfOk line (λ l. items l ≡ text) → IsLineWritten w text written
    line-put (Ok l) true text p is = subst (Gets w) is p
    line-put (Ok l) false text p is = inl (subst (GetsPrefix w) is p)
    line-put (Err e) true text p is = absurd (false≢true (sym p.1))
    line-put (Err e) false text p is = inr p.0

    pub line-printed : (line : Result T E) (wanted status : Status) (text : List ℕ) →
        IsToldBy line wanted status → IfOk line (λ l. items l ≡ text) → IsLinePrinted w text wanted
        status
    line-printed (Ok l) wanted status text p is =
        inl (subst (λ (t : List ℕ). IsWritten w t wanted status) is p)
    line-printed (Err e) wanted status text p is = inr p

    pub printed-whole : (line : Result T E) (written : Bool) (wanted : Status) →
        IsPutBy line written →
        written ≡ true → IsToldBy line wanted wanted
    printed-whole (Ok l) written wanted p e = done-put (items l) written wanted p e
    printed-whole (Err x) written wanted p e = absurd (false≢true (sym p.1 ∙ e))

    pub printed-trouble : (line : Result T E) (written : Bool) (wanted : Status) →
        IsPutBy line written → written ≡ false → IsToldBy line wanted Trouble
    printed-trouble (Ok l) written wanted p e = trouble-put (items l) written wanted p e
    printed-trouble (Err x) written wanted p e = (p.0, refl)

-- ---- a remark

-- what is said of a writer before a remark is so after it
pub remarked : {W : Type 0} (g : Ghosts W) (old new later : W) (Is : OutputChange → Type 0) →
    g.contents later ≡ g.contents new → g.failures later ≡ g.failures new →
    Is (output_change g old new) → Is (output_change g old later)
remarked g old new later Is same_contents same_failures is =
    let c = sym same_contents in
    let f = sym same_failures in
    let same : output_change g old new ≡ output_change g old later =
    λ i. record {
      before = g.contents old;
      failed_before = g.failures old;
      after = c i;
      failed_after = f i;
    } in
    subst Is same is

-- ---- one after the other

-- nothing was written
pub nothing-gets : (known : Option (List ℕ)) (failed : ℕ) →
    Gets (grown known failed known failed) []
nothing-gets known failed = (Appends-nil known, refl)

module _ (a : Option (List ℕ)) (old : ℕ) (b : Option (List ℕ)) (mid : ℕ) (c : Option (List ℕ))
    (new : ℕ) where
  pub gets-after : (done more : List ℕ) → Gets (grown a old b mid) done →
      Gets (grown b mid c new) more → Gets (grown a old c new) (done ++ more)
  gets-after done more first then = (
    Appends-trans a b c done more first.0 then.0,
    then.1 ∙ first.1,
  )

  pub gets-no_more : (done : List ℕ) → Gets (grown a old b mid) done → Gets (grown b mid c new) [] →
      Gets (grown a old c new) done
  gets-no_more done first then = subst (Gets (grown a old c new)) (append-nil done)
      (gets-after done [] first then)

  -- some bytes were written, and then a front of those after them
  pub front-after : (done line rest all : List ℕ) → all ≡ done ++ (line ++ rest) →
      Gets (grown a old b mid) done → GetsPrefix (grown b mid c new) line →
      GetsPrefix (grown a old c new) all
  front-after done line rest all e first then = (
    record {
      prefix = done ++ then.0.prefix;
      remaining = then.0.remaining ++ rest;
      parts = e ∙ ap (λ (l : List ℕ). done ++ (l ++ rest)) then.0.parts
          ∙ ap (λ (l : List ℕ). done ++ l) (append_assoc then.0.prefix then.0.remaining rest)
          ∙ sym (append_assoc done then.0.prefix (then.0.remaining ++ rest));
      wrote = Appends-trans a b c done then.0.prefix first.0 then.0.wrote;
    },
    then.1 ∙ ap saturating_increment first.1,
  )

  -- some lines were written, and the next one was not
  pub stops-after : (lines : ℕ → List ℕ) (count n : ℕ) (line rest : List ℕ) → n < count →
      lines count ≡ lines n ++ (line ++ rest) → Gets (grown a old b mid) (lines n)
      → IsLineWritten (grown b mid c new) line false → GetsPrefix (grown a old c new) (lines count)
      ⊎ RunsOutOfMemoryForLine (grown a old c new) lines count
  stops-after lines count n line rest lt e first (inl cut) =
      inl (front-after (lines n) line rest (lines count) e first cut)
  stops-after lines count n line rest lt e first (inr none) =
      inr (record { written = n; fewer = lt; wrote = gets-no_more (lines n) first none })
