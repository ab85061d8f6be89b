-- Bytes have one first fault of an identity.
use Rattle.std.proofs.Common.{◌≡◌, ℕ, List, arith, refl, ap, inl, inr}
use Rattle.std.proofs.lemmas.Bool.{cases_lt}
use Rattle.edf_header.specs.Identity.{IsFirstKeyFault, KeyFails, identity_fault_order, signals_at}
use Rattle.edf_field.specs.Text.{IsPrintable}
use Rattle.edf_header.specs.declared.signal_checks.Check.TheVariants as checks
use Rattle.edf_header.specs.declared.identity.IdentityFault.{IdentityFault}
use Rattle.edf_header.specs.declared.identity.IdentityFault.TheVariants.{Length, Unprintable}
use Rattle.edf_header.specs.declared.identity.IdentityFault.TheVariants.{Patient, Recording}
use Rattle.edf_header.specs.declared.identity.IdentityFault.TheVariants.{Duration, Label, Physical}
use Rattle.edf_header.specs.declared.identity.IdentityFault.TheVariants.{Digital, Samples, Size}
use Rattle.edf_header.specs.declared.identity.IdentityFault.TheVariants.{Memory}
use Rattle.edf_header.proofs.SpelledOnce.{one-first-bad, one-bad-signal}

same-order : (b : List ℕ) (e f : IdentityFault) → IsFirstKeyFault b e → IsFirstKeyFault b f →
    identity_fault_order e ≡ identity_fault_order f
same-order b e f p q =
    elim (cases_lt (identity_fault_order e) (identity_fault_order f)) [
      | inl lt ↦ absurd (q.1 e lt p.0)
      | inr le ↦ elim (cases_lt (identity_fault_order f) (identity_fault_order e)) [
        | inl lt ↦ absurd (p.1 f lt q.0)
        | inr more ↦ omega arith
      ]
    ]

same-fault : (b : List ℕ) (e f : IdentityFault) → identity_fault_order e ≡ identity_fault_order f →
    KeyFails b e → KeyFails b f → e ≡ f
same-fault b Length Length same p q = refl
same-fault b (Unprintable x) (Unprintable y) same p q =
    ap (λ (o : ℕ). Unprintable o) (one-first-bad IsPrintable 0 b x y p q)
same-fault b Patient Patient same p q = refl
same-fault b Recording Recording same p q = refl
same-fault b Duration Duration same p q = refl
same-fault b (Label x) (Label y) same p q =
    ap (λ (o : ℕ). Label o) (one-bad-signal checks.Label (signals_at b) x y p q)
same-fault b (Physical x) (Physical y) same p q =
    ap (λ (o : ℕ). Physical o) (one-bad-signal checks.Physical (signals_at b) x y p q)
same-fault b (Digital x) (Digital y) same p q =
    ap (λ (o : ℕ). Digital o) (one-bad-signal checks.Digital (signals_at b) x y p q)
same-fault b (Samples x) (Samples y) same p q =
    ap (λ (o : ℕ). Samples o) (one-bad-signal checks.Samples (signals_at b) x y p q)
same-fault b Size Size same p q = refl
same-fault b Memory Memory same p q = refl
same-fault b e f same p q = absurd (omega arith)

pub one-key-fault : (b : List ℕ) (e f : IdentityFault) → IsFirstKeyFault b e → IsFirstKeyFault b f →
    e ≡ f
one-key-fault b e f p q = same-fault b e f (same-order b e f p q) p.0 q.0
