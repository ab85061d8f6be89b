-- A schema of ours is of one kind.
use Rattle.std.proofs.Common.{◌≡◌, ◌≢◌, ℕ, suc, [], length, sym, ap, ◌∙◌, arith}
use Rattle.sqlite.specs.Schema.{Schema}
use Rattle.edf_tables.specs.Schema.{no_schema, one_schema, both_schema, HasBoth}

tables_apart : (a b : Schema) → length a.tables ≢ length b.tables → a ≢ b
tables_apart a b apart same = apart (ap (λ (s : Schema). length s.tables) same)

pub none_not_one : (s : Schema) → s ≡ no_schema → s ≢ one_schema
none_not_one s none one = tables_apart no_schema one_schema
    (λ e. absurd (let n : ◌≡◌ {A = ℕ} 0 1 = e in omega (arith, n))) (sym none ∙ one)

pub none_not_both : (s : Schema) → s ≡ no_schema → ¬ HasBoth s
none_not_both s none both = let n : ◌≡◌ {A = ℕ} 0 (suc (suc (length both.others.tables))) =
    ap (λ (s : Schema). length s.tables) (sym none ∙ both.is) in absurd (omega (arith, n))

pub one_not_both : (s : Schema) → s ≡ one_schema → ¬ HasBoth s
one_not_both s one both = let n : ◌≡◌ {A = ℕ} 1 (suc (suc (length both.others.tables))) =
    ap (λ (s : Schema). length s.tables) (sym one ∙ both.is) in absurd (omega (arith, n))

-- the schema that the two texts leave has nothing after the tables
pub made_both : (s : Schema) → s ≡ both_schema → HasBoth s
made_both s is = record {
  others = record { tables = []; indexes = []; views = [] };
  is = is;
  tables = λ k d low. absurd (omega (arith, low));
  indexes =
      λ k d low. absurd (omega (arith, low));
  views = λ k d low. absurd (omega (arith, low));
}
