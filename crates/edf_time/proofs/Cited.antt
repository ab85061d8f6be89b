-- What the proofs of other crates may cite: each lemma is the proof of a law.
pub use Rattle.edf_time.proofs.Digits.{digit_is, digit_only}
pub use Rattle.edf_time.proofs.OneValue.{SameParts, same-parts, one-value, one-fault, no-fault}
pub use Rattle.edf_time.proofs.Short.{IsSeconds-short, IsShortest-short, length-short-some}
pub use Rattle.edf_time.proofs.Short.{length-short-most, length-short-window}
pub use Rattle.edf_time.proofs.OneShortest.{one-shortest}
pub use Rattle.edf_time.proofs.OneDay.{IsInBounds, in-bounds}
pub use Rattle.edf_time.proofs.FieldTexts.{one-date_day, one-date_text, date-in-digits}
pub use Rattle.edf_time.proofs.FieldTexts.{date-in-window, not-yearless, one-time_second}
pub use Rattle.edf_time.proofs.FieldTexts.{one-time_text, time-in-day}
pub use Rattle.edf_time.proofs.Startdates.{one-startdates, has-form, IsStart, start-parts}
pub use Rattle.edf_time.proofs.Startdates.{start-two_digits, start-of-dated, start-of-undated}
pub use Rattle.edf_time.proofs.Startdates.{one-start, no-start_fault, one-start_fault}
pub use Rattle.edf_time.proofs.IdDates.{one-id_day, one-id_text}
pub use Rattle.edf_time.proofs.InstantTexts.{one-instant, one-instant_text}
pub use Rattle.edf_time.proofs.VisibleBytes.{date-length, time-length, id_date-length}
pub use Rattle.edf_time.proofs.VisibleBytes.{instant-length, date-visible, time-visible}
pub use Rattle.edf_time.proofs.VisibleBytes.{id_date-visible, instant-visible}
pub use Rattle.edf_time.proofs.SomeReading.{some-value, some-decimal, some-date, some-yearless}
pub use Rattle.edf_time.proofs.SomeReading.{some-startdates, some-time, some-id_date, some-start}
pub use Rattle.edf_time.proofs.SomeText.{date-text, time-text, id_date-text}
