use Rattle.std.proofs.Common.{arith, ℕ, List, ◌+◌, ◌++◌, ap, ◌∙◌}
use Rattle.edf_header.specs.Signal.{rows_of}
use Rattle.edf_header.proofs.CanonicalWritten.{names, written}
use Rattle.edf_header.proofs.canonical.write_header.Goals as goal

pub returns : goal.returns
returns c =
    written c.args.identity.now c.args.start c.args.count c.args.block_samples
    (c.signals.result + 1) c.date_field-date.result c.time_field-time.result
    c.id_date_text-id_date.result
    c.push_identifications.new.out.items c.extend_from_slice.new.self.items
    c.extend_from_slice-2.new.self.items c.push_numbers.new.out.items
    c.push_signals.new.out.items (rows_of c.signal_rows.result.now)
    c.date_field-date.ensures c.time_field-time.ensures c.id_date_text-id_date.ensures
    (c.in_ok-push_identifications.ensures
    ∙ ap (λ (l : List ℕ). l ++ names c.args.identity.now c.id_date_text-id_date.result)
    c.new-out.ensures.items)
    (c.in_ok-extend_from_slice.ensures.items
    ∙ ap (λ (l : List ℕ). c.push_identifications.new.out.items ++ l) c.as_slice.ensures)
    (c.in_ok-extend_from_slice-2.ensures.items
    ∙ ap (λ (l : List ℕ). c.extend_from_slice.new.self.items ++ l) c.as_slice-2.ensures)
    c.in_ok-push_numbers.ensures c.in_ok-push_signals.ensures
    (omega (arith, c.signals.ensures.count)) c.signal_rows.ensures
