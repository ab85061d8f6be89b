-- What a file is by its first bytes: one thing, and always one.
use Rattle.std.proofs.Common.{◌≡◌, ℕ, ◌<◌, List, get_or, take, arith, refl, sym, ap, ◌∙◌, inl, inr}
use Rattle.std.proofs.lemmas.List.{get_or-take}
use Rattle.edf_header.specs.Format.{IsFormat, edf_mark, bdf_mark, zip_mark, sqlite_mark}
use Rattle.edf_header.specs.declared.format.Format.{Format}
use Rattle.edf_header.specs.declared.format.Format.TheVariants.{Edf, Bdf, Zip, Sqlite, Other}
use Rattle.edf_header.proofs.Decided.{same-bytes}

-- the first byte, by more of them
first-byte : (b marked : List ℕ) (n : ℕ) → 0 < n → take n b ≡ marked →
    get_or b 0 0 ≡ get_or marked 0 0
first-byte b marked n some is = sym (get_or-take n b 0 0 some)
    ∙ ap (λ (l : List ℕ). get_or l 0 0) is

at-edf : (b : List ℕ) → IsFormat b Edf → get_or b 0 0 ≡ 48
at-edf b is = first-byte b edf_mark 8 (omega arith) is

at-bdf : (b : List ℕ) → IsFormat b Bdf → get_or b 0 0 ≡ 255
at-bdf b is = first-byte b bdf_mark 8 (omega arith) is

at-zip : (b : List ℕ) → IsFormat b Zip → get_or b 0 0 ≡ 80
at-zip b is = first-byte b zip_mark 4 (omega arith) is

at-sqlite : (b : List ℕ) → IsFormat b Sqlite → get_or b 0 0 ≡ 83
at-sqlite b is = first-byte b sqlite_mark 15 (omega arith) is

pub one-format : (b : List ℕ) (format other : Format) → IsFormat b format → IsFormat b other →
    format ≡ other
one-format b Edf Edf p q = refl
one-format b Bdf Bdf p q = refl
one-format b Zip Zip p q = refl
one-format b Sqlite Sqlite p q = refl
one-format b Other Other p q = refl
one-format b Edf Bdf p q = absurd (omega (arith, at-edf b p, at-bdf b q))
one-format b Edf Zip p q = absurd (omega (arith, at-edf b p, at-zip b q))
one-format b Edf Sqlite p q = absurd (omega (arith, at-edf b p, at-sqlite b q))
one-format b Bdf Edf p q = absurd (omega (arith, at-bdf b p, at-edf b q))
one-format b Bdf Zip p q = absurd (omega (arith, at-bdf b p, at-zip b q))
one-format b Bdf Sqlite p q = absurd (omega (arith, at-bdf b p, at-sqlite b q))
one-format b Zip Edf p q = absurd (omega (arith, at-zip b p, at-edf b q))
one-format b Zip Bdf p q = absurd (omega (arith, at-zip b p, at-bdf b q))
one-format b Zip Sqlite p q = absurd (omega (arith, at-zip b p, at-sqlite b q))
one-format b Sqlite Edf p q = absurd (omega (arith, at-sqlite b p, at-edf b q))
one-format b Sqlite Bdf p q = absurd (omega (arith, at-sqlite b p, at-bdf b q))
one-format b Sqlite Zip p q = absurd (omega (arith, at-sqlite b p, at-zip b q))
one-format b Edf Other p q = absurd (q.0 p)
one-format b Bdf Other p q = absurd (q.1 p)
one-format b Zip Other p q = absurd (q.2 p)
one-format b Sqlite Other p q = absurd (q.3 p)
one-format b Other Edf p q = absurd (p.0 q)
one-format b Other Bdf p q = absurd (p.1 q)
one-format b Other Zip p q = absurd (p.2 q)
one-format b Other Sqlite p q = absurd (p.3 q)

pub some-format : (b : List ℕ) → (format : Format) × IsFormat b format
some-format b =
    elim (same-bytes (take 8 b) edf_mark) [
      | inl edf ↦ (Edf, edf)
      | inr no_edf ↦ elim (same-bytes (take 8 b) bdf_mark) [
        | inl bdf ↦ (Bdf, bdf)
        | inr no_bdf ↦ elim (same-bytes (take 4 b) zip_mark) [
          | inl zip ↦ (Zip, zip)
          | inr no_zip ↦ elim (same-bytes (take 15 b) sqlite_mark) [
            | inl sqlite ↦ (Sqlite, sqlite)
            | inr no_sqlite ↦ (Other, (no_edf, no_bdf, no_zip, no_sqlite))
          ]
        ]
      ]
    ]
