use Rattle.std.proofs.Common.{w64, ◌≡◌, ℕ, sym, ap, subst, arith}
use Rattle.std.proofs.lemmas.Int.{to_z-of_z}
use Rattle.sqlite.specs.State.{HasCleanDisk}
use Rattle.edf_store.specs.Held.{StoreModel, at}
use Rattle.edf_store.specs.Transaction.{AreSeen, IsCountIn}
use Rattle.edf_store.proofs.Readiness.{stays_then}
use Rattle.edf_store.proofs.RowReads.{reads_refused, reads_then}
use Rattle.edf_store.proofs.Short.{room_counted}
use Rattle.edf_store.proofs.reading.has_capacity.Goals as goal

pub count_records-requires : goal.count_records-requires
count_records-requires g c =
    let mine = c.requires.recording in
    let reads = c.in_ok-short.ensures.reads in
    rw (to_z-of_z w64 c.args.id c.ranges.id) (record {
      recording = record {
        sees = reads.same.running;
        key = mine.key;
        is_of = reads.same.ids c.args.id mine.key mine.is_of;
      };
    })

pub returns-in_err-short-clause-reads : goal.returns-in_err-short-clause-reads
returns-in_err-short-clause-reads g c =
    reads_refused g.S.Store _ _ _ _ c.from_residual.ensures.1 c.is_short.ensures.reads.stays

pub returns-in_err-held-clause-reads : goal.returns-in_err-held-clause-reads
returns-in_err-held-clause-reads g c =
    reads_refused g.S.Store _ _ _ _ c.from_residual-in_err-held.ensures.1
    (stays_then g.S.Store c.args.store.now c.is_short.new.store c.count_records.new.store
    c.in_ok-short.ensures.reads.stays c.count_records.ensures.reads.stays)

pub returns-clause-reads : goal.returns-clause-reads
returns-clause-reads g c =
    reads_then g.S.Store c.args.store.now c.is_short.new.store c.count_records.new.store _ _ _
    c.in_ok-short.ensures.reads c.in_ok-held.ensures.reads

pub returns-clause-spare : goal.returns-clause-spare
returns-clause-spare g c clean h k seen under =
    let old = c.args.store.now in
    let mid = c.is_short.new.store in
    let reads = c.in_ok-short.ensures.reads in
    let clean_mid : HasCleanDisk (at g.S.Store mid) =
    omega (arith, c.in_ok-held.ensures.reads.stays.crash.clean) in
    let clean_old : HasCleanDisk (at g.S.Store old) =
    omega (arith, reads.stays.crash.clean, clean_mid) in
    let same_cap : c.store.inside.cap ≡ old.cap =
    ap (λ (s : StoreModel g.row.S.Denot). s.cap) c.store.view_is in
    let counted : IsCountIn mid.cap (at g.S.Store mid) c.args.id c.in_ok-held.held =
    rw (to_z-of_z w64 c.args.id c.ranges.id) at (c.in_ok-held.ensures.count clean) in
    let held = counted h k (reads.same.holdings h
    (subst (λ (n : ℕ). AreSeen n (at g.S.Store old) h) (sym reads.stays.cap) seen))
    (reads.same.ids c.args.id k under) in
    room_counted old.cap c.args.more c.saturating_sub-2.result c.in_ok-held.held _
    (omega (arith, c.saturating_sub-2.ensures, same_cap)) held ((seen clean_old).sound.within_cap k)
