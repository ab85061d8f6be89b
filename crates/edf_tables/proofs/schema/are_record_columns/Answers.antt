use Rattle.std.proofs.Common.{rules, ◌≡◌, ◌∷◌, [], arith, codes, true, sym, ◌∙◌}
use Rattle.sqlite_schema.specs.declared.schema.Kind.TheVariants.{Integer, Blob}
use Rattle.edf_tables.specs.Schema.{strict_column}
use Rattle.edf_tables.proofs.Lists.{all_four}
use Rattle.edf_tables.proofs.schema.are_record_columns.Goals as goal

pub returns-then-is_column : goal.returns-then-is_column
returns-then-is_column c =
    let all = all_four c.args.columns.now c.recording-item.result c.start-item.result
    c.samples-item.result c.block-item.result (omega arith) (omega arith) c.recording-item.is
    c.start-item.is c.samples-item.is c.block-item.is in
    let first : c.recording-item.result ≡ strict_column (codes "recording") Integer true =
    search rules in
    let second : c.start-item.result ≡ strict_column (codes "start") Integer true = search rules in
    let third : c.samples-item.result ≡ strict_column (codes "samples") Blob true =
    search rules in (
      λ h.
          let fourth : c.block-item.result ≡ strict_column (codes "block") Blob true =
          c.is_column-then-is_column.ensures.0 h in
          all ∙ (λ i. first i ∷ second i ∷ third i ∷ fourth i ∷ []),
      λ h. c.is_column-then-is_column.ensures.1 (let e = sym all ∙ h in cc),
    )
