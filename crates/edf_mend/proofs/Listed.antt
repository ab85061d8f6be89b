-- Fields that differ are listed.
use Rattle.std.proofs.Common.{◌≡◌, ℕ, zero, suc, ◌+◌, ◌*◌, ◌<◌, List, [], ◌∷◌, ◌++◌, arith, refl}
use Rattle.std.proofs.Common.{sym, subst, inl, inr, Bool, true, false}
use Rattle.std.specs.Prelude.{if◌then◌else◌, Contains}
use Rattle.std.specs.List.{flat_map}
use Rattle.std.specs.Str.{bytes_eq}
use Rattle.std.proofs.lemmas.List.Elements.{Contains-append_left, Contains-append_right}
use Rattle.edf_time.proofs.Decided.{less}
use Rattle.std.proofs.lemmas.Slice.Eq.{bytes_eq-Decides}
use Rattle.edf_field.specs.Number.{field}
use Rattle.edf_header.specs.Fields.{fields}
use Rattle.edf_header.specs.Signal.{row_at}
use Rattle.edf_mend.specs.Changes.{FieldChange, changed, fixed_fields, changes_of_fixed}
use Rattle.edf_mend.specs.Changes.{changes_of_row, changes_of_signals}
use Rattle.edf_mend.specs.Laws.{IsListed}

pub in-flat : {X Y : Type 0} (f : X → List Y) (xs : List X) (x : X) (y : Y) → Contains xs x →
    Contains (f x) y → Contains (flat_map f xs) y
in-flat f [] x y (k, lt, e) there = absurd (omega (arith, lt))
in-flat {X} {Y} f (z ∷ zs) x y (zero, lt, e) there = Contains-append_left (f z) (flat_map f zs) y
    (subst (λ (q : X). Contains (f q) y) (sym e) there)
in-flat f (z ∷ zs) x y (suc k, lt, e) there = Contains-append_right (f z) (flat_map f zs) y
    (in-flat f zs x y (k, omega (arith, lt), e) there)

pub in-changed : (place signal at : ℕ) (old new : List ℕ) →
    IsListed (changed place signal at old new) place signal at old new
in-changed place signal at old new differ = go (bytes_eq old new) refl
  where
    there : FieldChange
    there = record { place = place; signal = signal; at = at; old = old; new = new }

    go : (b : Bool) → bytes_eq old new ≡ b → Contains (changed place signal at old new) there
    go true e = absurd (differ ((bytes_eq-Decides old new).0 e))
    go false e = subst (λ (b : Bool). Contains (if b then [] else there ∷ []) there) (sym e)
        (0, omega arith, refl)

-- ---- of two headers

pub in-fixed : (old new : List ℕ) (f : ℕ × ℕ) → Contains fixed_fields f →
    IsListed (changes_of_fixed old new) f.0 0 f.0 (field old f.0 f.1) (field new f.0 f.1)
in-fixed old new f there differ =
    in-flat (λ (g : ℕ × ℕ). changed g.0 0 g.0 (field old g.0 g.1) (field new g.0 g.1)) fixed_fields
    f _ there (in-changed f.0 0 f.0 (field old f.0 f.1) (field new f.0 f.1) differ)

in-row : (n i : ℕ) (old new : List ℕ) (f : ℕ × ℕ) → Contains fields f →
    IsListed (changes_of_row n i old new) f.0 (i + 1) (256 + n * f.0 + i * f.1)
    (field old f.0 f.1) (field new f.0 f.1)
in-row n i old new f there differ =
    in-flat (λ (g : ℕ × ℕ). changed g.0 (i + 1) (256 + n * g.0 + i * g.1) (field old g.0 g.1)
    (field new g.0 g.1)) fields f _ there
    (in-changed f.0 (i + 1) (256 + n * f.0 + i * f.1) (field old f.0 f.1) (field new f.0 f.1)
    differ)

-- one of the first so many signals
in-signals : (n : ℕ) (old : List ℕ) (count : ℕ) (new : List ℕ) (k i : ℕ) (y : FieldChange) → i < k →
    Contains (changes_of_row n i (row_at old n i) (row_at new count i)) y →
    Contains (changes_of_signals n old count new k) y
in-signals n old count new zero i y lt there = absurd (omega (arith, lt))
in-signals n old count new (suc k) i y lt there = elim (less i k) [
  | inl below ↦
      Contains-append_left (changes_of_signals n old count new k) _ y
      (in-signals n old count new k i y below there)
  | inr other ↦
      let same : i ≡ k = omega (arith, lt, other) in
      Contains-append_right (changes_of_signals n old count new k)
      (changes_of_row n k (row_at old n k) (row_at new count k)) y
      (subst (λ (j : ℕ). Contains (changes_of_row n j (row_at old n j) (row_at new count j)) y) same
      there)
]

module _ (n : ℕ) (first second : List ℕ) (count : ℕ) (strict signals : List ℕ) where
  abbrev pub all_changes : List FieldChange
  all_changes = changes_of_fixed first strict ++ changes_of_signals n second count signals n

  pub listed-fixed : (f : ℕ × ℕ) → Contains fixed_fields f →
      IsListed all_changes f.0 0 f.0 (field first f.0 f.1) (field strict f.0 f.1)
  listed-fixed f there differ = Contains-append_left (changes_of_fixed first strict) _ _
      (in-fixed first strict f there differ)

  pub listed-signals : (i : ℕ) (f : ℕ × ℕ) → i < n → Contains fields f →
      IsListed all_changes f.0 (i + 1) (256 + n * f.0 + i * f.1) (field (row_at second n i) f.0 f.1)
      (field (row_at signals count i) f.0 f.1)
  listed-signals i f lt there differ = Contains-append_right (changes_of_fixed first strict) _ _
      (in-signals n second count signals n i _ lt
      (in-row n i (row_at second n i) (row_at signals count i) f there differ))
