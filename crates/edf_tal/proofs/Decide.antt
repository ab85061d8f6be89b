-- Whether a TAL is at the front of bytes, and which.
use Rattle.std.proofs.Common.{◌≡◌, ℕ, ◌⊎◌, inl, inr, List, [], ◌∷◌, ◌++◌, sym, ap, subst, ℤ, pos}
use Rattle.std.proofs.Common.{neg_ℤ, Option, Some, None}
use Rattle.std.proofs.lemmas.Bool.{cases_eq}
use Rattle.edf_time.proofs.Cited.{some-value}
use Rattle.edf_tal.specs.Tal.{Tal}
use Rattle.edf_tal.specs.Inside.Scan.{Lacks, NoTal, IsSecondsAndDuration, IsOnsetAndDuration}
use Rattle.edf_tal.specs.Inside.Scan.{IsEmptyOrEndsWith20, IsLeadingTal}
use Rattle.edf_tal.proofs.Heads.{alone, from-alone, both, from-both, no-head, head-signed}
use Rattle.edf_tal.proofs.Heads.{head-plus, head-minus, neither, IsEnded-ended, no-zero-byte}
use Rattle.edf_tal.proofs.Heads.{no-twenty, front-sides, front-made}

-- the two sides of the first such byte
pub record Split (c : ℕ) (bytes : List ℕ) : Type 0 where
  pub prefix : List ℕ
  pub suffix : List ℕ
  pub lacks : Lacks c prefix
  pub parts : bytes ≡ prefix ++ c ∷ suffix

pub split : (c : ℕ) (bytes : List ℕ) → Split c bytes ⊎ Lacks c bytes
split c [] = inr tt
split c (b ∷ bytes) =
    elim (cases_eq b c) [
      | inl is ↦ inl (record {
        prefix = [];
        suffix = bytes;
        lacks = tt;
        parts =
            ap (λ (x : ℕ). x ∷ bytes) is;
      })
      | inr isnt ↦ elim (split c bytes) [
        | inl s ↦ inl (record {
          prefix = b ∷ s.prefix;
          suffix = s.suffix;
          lacks = (isnt, s.lacks);
          parts =
              ap (λ (w : List ℕ). b ∷ w) s.parts;
        })
        | inr lacks ↦ inr (isnt, lacks)
      ]
    ]

-- an onset's decimal, and a duration or none
pub times : (bytes : List ℕ) → ((n : ℕ) × (d : Option ℕ) × IsSecondsAndDuration bytes n d)
    ⊎ ((n : ℕ) (d : Option ℕ) → ¬ IsSecondsAndDuration bytes n d)
times bytes =
    elim (split 21 bytes) [
      | inl s ↦ elim (some-value s.prefix) [
        | inl o ↦ elim (some-value s.suffix) [
          | inl d ↦ inl (o.0, Some d.0, both bytes s.prefix s.suffix o.0 d.0 s.parts o.1 d.1)
          | inr never ↦ inr (λ n d t. let b =
              (from-both bytes s.prefix s.suffix n d s.lacks s.parts t).duration in never b.0 b.1)
        ]
        | inr never ↦ inr (λ n d t. let b =
            (from-both bytes s.prefix s.suffix n d s.lacks s.parts t).onset in never b.0 b.1)
      ]
      | inr lacks ↦ elim (some-value bytes) [
        | inl o ↦ inl (o.0, None, alone bytes o.0 o.1)
        | inr never ↦ inr (λ n d t. let b = from-alone bytes n d lacks t in never b.0 b.1)
      ]
    ]

-- after a sign
signed : (b : ℕ) (bytes : List ℕ) (n : ℕ) (d : Option ℕ) → IsSecondsAndDuration bytes n d
    → ((z : ℤ) × (d : Option ℕ) × IsOnsetAndDuration (b ∷ bytes) z d)
    ⊎ ((z : ℤ) (d : Option ℕ) → ¬ IsOnsetAndDuration (b ∷ bytes) z d)
signed b bytes n d t =
    elim (cases_eq b 43) [
      | inl is ↦ inl (
        pos n,
        d,
        subst (λ (x : ℕ). IsOnsetAndDuration (x ∷ bytes) (pos n) d) (sym is)
            (head-plus bytes n d t),
      )
      | inr not-plus ↦ elim (cases_eq b 45) [
        | inl is ↦ inl (
          neg_ℤ (pos n),
          d,
          subst (λ (x : ℕ). IsOnsetAndDuration (x ∷ bytes) (neg_ℤ (pos n)) d) (sym is)
              (head-minus bytes n d t),
        )
        | inr not-minus ↦ inr (λ z e. neither b bytes z e not-plus not-minus)
      ]
    ]

pub head : (bytes : List ℕ) → ((z : ℤ) × (d : Option ℕ) × IsOnsetAndDuration bytes z d)
    ⊎ ((z : ℤ) (d : Option ℕ) → ¬ IsOnsetAndDuration bytes z d)
head [] = inr no-head
head (b ∷ bytes) =
    elim (times bytes) [
      | inl t ↦ signed b bytes t.0 t.1 t.2
      | inr never ↦ inr (λ z d h. let s = head-signed b bytes z d h in never s.n d s.times)
    ]

ends : (bytes : List ℕ) → IsEmptyOrEndsWith20 bytes ⊎ (¬ IsEmptyOrEndsWith20 bytes)
ends [] = inl tt
ends (b ∷ []) = cases_eq b 20
ends (b ∷ c ∷ bytes) = ends (c ∷ bytes)

-- the TAL at the front
pub record Front (bytes : List ℕ) : Type 0 where
  pub texts : List ℕ
  pub rest : List ℕ
  pub tal : Tal
  pub is_front : IsLeadingTal bytes texts rest tal

-- around the first byte 0 and the first byte 20 before it
module _ (bytes body rest head-bytes texts : List ℕ) (no-zeros : Lacks 0 body) (parts : bytes ≡ body
    ++ 0 ∷ rest) (no-twenties : Lacks 20 head-bytes) (sides : body ≡ head-bytes ++ 20 ∷ texts) where
  front-in : Front bytes ⊎ NoTal bytes
  front-in =
      elim (ends texts) [
        | inl e ↦ elim (head head-bytes) [
          | inl h ↦
              let made = front-made bytes body rest head-bytes texts h.0 h.1 no-zeros parts sides
              h.2 e in
              inl (record {
                texts = texts;
                rest = rest;
                tal =
                    record { onset = h.0; duration = h.1; texts = made.0.texts };
                is_front = made.1;
              })
          | inr never ↦ inr (λ front later t f s. let at =
              front-sides bytes body rest head-bytes texts front later t no-zeros parts no-twenties
              sides f s in never t.onset t.duration at.head)
        ]
        | inr never ↦ inr (λ front later t f s.
            let at = front-sides bytes body rest head-bytes texts front later t no-zeros parts
            no-twenties sides f s in
            never (subst IsEmptyOrEndsWith20 (sym at.texts) (IsEnded-ended t.texts)))
      ]

pub front : (bytes : List ℕ) → Front bytes ⊎ NoTal bytes
front bytes =
    elim (split 0 bytes) [
      | inl s ↦ elim (split 20 s.prefix) [
        | inl h ↦ front-in bytes s.prefix s.suffix h.prefix h.suffix s.lacks s.parts h.lacks h.parts
        | inr lacks ↦ inr (no-twenty bytes s.prefix s.suffix s.lacks s.parts lacks)
      ]
      | inr lacks ↦ inr (no-zero-byte bytes lacks)
    ]
