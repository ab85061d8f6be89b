-- What was read of a file leniently, and written.
use Rattle.std.proofs.Common.{◌≡◌, ℕ, ◌+◌, ◌<◌, List, ◌++◌, length, Bool, refl, sym, ap, ◌∙◌}
use Rattle.std.proofs.Common.{subst, append_assoc, Option, ◌≢◌, take, codes, false}
use Rattle.std.specs.List.{flat_map}
use Rattle.std.specs.Io.KnownBytes.{Appends, Consumes}
use Rattle.std.proofs.KnownBytes.{Consumes-trans}
use Rattle.edf_header.specs.Canonical.{IsCanonicalHeader}
use Rattle.edf_header.specs.Fields.{count_field, signals_field, reserved_field, recording_field}
use Rattle.edf_header.specs.Header.{Layout, IsLayout, layout_of, HeaderRecord, AreSignals}
use Rattle.edf_header.specs.Key.{MayStart}
use Rattle.edf_tal.specs.declared.place.Place.{Place}
use Rattle.edf_tal.specs.declared.place.Place.TheVariants.{First}
use Rattle.edf_fragment.specs.declared.streams.Input.{Ghosts}
use Rattle.edf_canonical.specs.Measure.{planned_text}
use Rattle.edf_canonical.specs.Sending.{SendsAll}
use Rattle.edf_canonical.specs.Source.{at}
use Rattle.edf_canonical.specs.declared.measure.Measure.{Measure}
use Rattle.edf_canonical.proofs.MeasuredFiles.{file_of}
use Rattle.edf_mend.specs.Body.{record_size, RecordsReadAs, CountFits, HeaderSizeFits}
use Rattle.edf_mend.specs.Changes.{FieldChange, changes_of_count, changes_of_fixed}
use Rattle.edf_mend.specs.Changes.{changes_of_signals}
use Rattle.edf_mend.specs.Mends.{MendsTo, ListsHeader}
use Rattle.edf_mend.specs.Inside.{OpensLeniently, ReadsLeniently}
use Rattle.edf_mend.specs.declared.opening.Opened.{Opened}
use Rattle.edf_mend.specs.declared.reading.LenientSource.{LenientSource}
use Rattle.edf_mend.specs.declared.reading.LenientFile.{LenientFile}
use Rattle.edf_mend.specs.declared.wanted.Wanted.{Wanted}
use Rattle.edf_mend.proofs.Sent.{gave-all, read-sound}
use Rattle.edf_field.specs.Number.{IsNumber}
use Rattle.edf_header.specs.Fixed.{FixedPart, IsFixedHeader}
use Rattle.edf_mend.specs.Texts.{numeral}
use Rattle.edf_mend.specs.Header.{KeepsFixed, KeepsSignals, KeepsHeader, StaysAll, IsMarkedRight}

pub mends : {R : Type 0} (g : Ghosts R) (w : Wanted) (left : Option (List ℕ)) (input rest : R)
    (o : Opened) (source last : LenientSource) (file : LenientFile) (m : Measure) (header : List ℕ)
    (before after : Option (List ℕ)) → OpensLeniently w left (g.remaining input) o →
    IsLayout o.file.header → MayStart o.file.header.key m.first →
    IsCanonicalHeader header o.file.header.key m.first m.records m.block_samples →
    SendsAll (ReadsLeniently g) (at source o.file input) (at last file rest) m
    (λ rs. Appends before after (planned_text header m rs)) →
    CountFits w file.timed (count_field o.first) m.records
    × HeaderSizeFits o.first o.signals m.records file.left_out
    × (file.timed ≡ false → w.all ≡ false → file.left_out ≡ 0) →
    (changes : List FieldChange) →
    changes ≡ file.changes.items ++ changes_of_count o.first m.records →
    MendsTo w left (g.remaining rest) before after changes file.left_out
mends g w left input rest o source last file m header before after opens layout begins is sent
    checked changes changes-are =
    let all = gave-all g (at source o.file input) sent.mid sent.records sent.gave in
    let end = sent.end.answers in
    let timed : file.timed ≡ o.file.timed = sent.end.timed ∙ all.timed in
    let l = o.file.header in
    let same : l ≡ layout_of opens.h = opens.layout in
    let body = flat_map (λ (p : List ℕ). p) all.pieces ++ end.tail in
    let front = o.first ++ opens.second in
    let first = subst (λ (n : ℕ). RecordsReadAs o.file.timed l o.file.place (n + 1) all.pieces
    sent.records all.changes) opens.given all.each in
    let each = subst (λ (p : Place). RecordsReadAs o.file.timed l p 1 all.pieces sent.records
    all.changes) opens.place first in
    let sound = read-sound o.file.timed l First 1 all.pieces sent.records all.changes layout each
    all.valid in
    let told = λ (n : ℕ). changes_of_count o.first n in
    let listed : changes ≡ o.file.changes.items ++ (all.changes ++ told m.records) = changes-are
    ∙ ap (λ (l : List FieldChange). l ++ told m.records) (end.changes ∙ all.changes_are)
    ∙ append_assoc o.file.changes.items all.changes (told m.records) in
    let count : m.records ≡ length sent.records = sent.measured.count in
    let less = subst (λ (t : Bool). length end.tail < record_size t l) all.timed
    (subst (λ (x : Layout). length end.tail < record_size sent.mid.file.timed x) all.header
    end.less) in
    let counted = subst (λ (t : Bool). CountFits w t (count_field o.first) m.records) timed
    checked.0 in
    record {
      old = front ++ body;
      new = planned_text header m sent.records;
      read = Consumes-trans left (g.remaining input) (g.remaining rest) front body opens.read
          (Consumes-trans (g.remaining input) (g.remaining sent.mid.input) (g.remaining rest)
          (flat_map (λ (p : List ℕ). p) all.pieces) end.tail all.read end.read);
      end = end.end;
      wrote = sent.wrote;
      mends = record {
        key = l.key;
        records = sent.records;
        canonical = file_of l.key sent.records m header layout.key sound sent.measured begins is;
        header_changes = o.file.changes.items;
        lists = opens.lists;
        changes_are = subst (λ (n : ℕ). changes ≡ o.file.changes.items ++ (all.changes ++ told n))
            count listed;
        mends = record {
          first = o.first;
          second = opens.second;
          body = body;
          timed = o.file.timed;
          h = opens.h;
          parts = append_assoc o.first opens.second body;
          header = opens.header;
          key_is = ap (λ (x : Layout). x.key) same;
          records_are = record {
            pieces = all.pieces;
            tail = end.tail;
            parts = refl;
            less = subst (λ (x : Layout). length end.tail < record_size o.file.timed x) same less;
            left_out_is = end.left_out;
            changes = all.changes;
            each = subst (λ (x : Layout). RecordsReadAs o.file.timed x First 1 all.pieces
                sent.records all.changes) same each;
            count = subst (CountFits w o.file.timed (count_field o.first)) count counted;
            sized = subst (λ (n : ℕ). HeaderSizeFits o.first n (length sent.records) file.left_out)
                (sym opens.number) (subst (λ (n : ℕ). HeaderSizeFits o.first o.signals n
                file.left_out) count checked.1);
            behind = subst (λ (t : Bool). t ≡ false → w.all ≡ false → file.left_out ≡ 0) timed
                checked.2;
          };
        };
      };
    }

pub keeps-header : (w : Wanted) (first second : List ℕ) (n count : ℕ) (timed : Bool)
    (strict signals text : List ℕ) (fixed : FixedPart) (l : Layout) → length first ≡ 256 →
    IsNumber (numeral (signals_field first)) n →
    (timed ≡ false → take 5 (reserved_field first) ≢ codes "EDF+D") → IsFixedHeader strict fixed →
    count ≡ fixed.signal_count → KeepsFixed w first strict text →
    KeepsSignals timed n second count signals →
    IsMarkedRight (StaysAll w n first second text count strict signals) text
    (recording_field strict)
    → (h : HeaderRecord) × AreSignals signals h × (h.fixed ≡ fixed) × (l ≡ layout_of h) →
    (changes : List FieldChange) →
    changes ≡ changes_of_fixed first strict ++ changes_of_signals n second count signals n →
    (h : HeaderRecord) × (x : KeepsHeader w first second timed h) × (x.n ≡ n)
    × ListsHeader x changes × (l ≡ layout_of h)
keeps-header w first second n count timed strict signals text fixed l len number gaps is counts
    kept rows marked (h, are, same, layout)
    changes lists =
    let e : count ≡ h.fixed.signal_count = counts
    ∙ sym (ap (λ (f : FixedPart). f.signal_count) same) in (
      h,
      record {
        n = n;
        strict = strict;
        strict_signals = signals;
        text = text;
        len = len;
        number = number;
        gaps = gaps;
        fixed = kept;
        signals = subst (λ (k : ℕ). KeepsSignals timed n second k signals) e rows;
        marked = subst (λ (k : ℕ). IsMarkedRight (StaysAll w n first second text k strict signals)
            text (recording_field strict)) e marked;
        is_fixed = subst (λ (f : FixedPart). IsFixedHeader strict f) (sym same) is;
        are_signals = are;
      },
      refl,
      lists ∙ ap (λ (k : ℕ). changes_of_fixed first strict
          ++ changes_of_signals n second k signals n) e,
      layout,
    )

pub opens : {R : Type 0} (g : Ghosts R) (w : Wanted) (from mid to : R) (o : Opened)
    (second buf : List ℕ) → (h : HeaderRecord)
    × (x : KeepsHeader w o.first second o.file.timed h) × (x.n ≡ o.signals)
    × ListsHeader x o.file.changes.items × (o.file.header ≡ layout_of h) → second ≡ buf →
    Consumes (g.remaining from) (g.remaining mid) o.first →
    Consumes (g.remaining mid) (g.remaining to) buf → o.file.place ≡ First →
    o.file.given ≡ 0 → OpensLeniently w (g.remaining from) (g.remaining to) o
opens g w from mid to o second buf (h, x, number, lists, layout) is one two place given = record {
  second = second;
  h = h;
  read = Consumes-trans (g.remaining from) (g.remaining mid) (g.remaining to) o.first second one
      (subst (λ (l : List ℕ). Consumes (g.remaining mid) (g.remaining to) l) (sym is) two);
  header = x;
  number = number;
  lists = lists;
  layout = layout;
  place = place;
  given = given;
}
