use Rattle.std.proofs.Common.{◌≡◌, List, ℕ, sym, subst}
use Rattle.edf_header.specs.Header.{IsLayout, blocks_from}
use Rattle.edf_header.specs.Inside.Rows.{header_of}
use Rattle.edf_header.proofs.Headers.{annotations-made, header-key, header-layout, layout-made}
use Rattle.edf_header.proofs.signals.header_from.Goals as goal

pub from_header-requires-clause-key : goal.from_header-requires-clause-key
from_header-requires-clause-key c =
    let f = c.args.fixed.now in
    header-key c.requires.signals.0 (header_of f c.args.signals.now) c.requires.fixed
    c.requires.signals.1

pub invariant_of-result : goal.invariant_of-result
invariant_of-result c =
    let f = c.args.fixed.now in
    let ss : List (List ℕ) = c.args.signals.now in
    let blocks : c.in_ok-blocks.blocks.items ≡ blocks_from 0 ss = c.in_ok-blocks.ensures in (
      subst IsLayout (sym (layout-made f ss c.in_ok-identity.identity c.start.result c.count.result
          c.in_ok-blocks.blocks.items c.args.parts c.in_ok-identity.ensures c.start.ensures
          c.count.ensures blocks c.requires.parts))
          (header-layout c.requires.signals.0 (header_of f ss) c.requires.fixed
          c.requires.signals.1),
      annotations-made ss c.in_ok-blocks.blocks.items c.args.parts blocks c.requires.parts,
    )

pub returns : goal.returns
returns c =
    let f = c.args.fixed.now in
    let ss : List (List ℕ) = c.args.signals.now in
    let blocks : c.in_ok-blocks.blocks.items ≡ blocks_from 0 ss = c.in_ok-blocks.ensures in
    layout-made f ss c.in_ok-identity.identity c.start.result c.count.result
    c.in_ok-blocks.blocks.items c.args.parts c.in_ok-identity.ensures c.start.ensures
    c.count.ensures blocks c.requires.parts
