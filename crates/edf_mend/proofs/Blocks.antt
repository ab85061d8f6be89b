-- Blocks, token by token.
use Rattle.std.proofs.Common.{◌≡◌, ℕ, ◌+◌, ◌<◌, List, [], ◌∷◌, ◌++◌, length, take, drop, get_or}
use Rattle.std.proofs.Common.{refl, sym, ap, ◌∙◌, subst, arith, append_assoc, inr, All, Bool, true}
use Rattle.std.proofs.Common.{◌==◌, ◌⊎◌, suc, add-one, length-drop, drop-drop, append-nil, ◌-◌}
use Rattle.std.proofs.Common.{length-append}
use Rattle.std.specs.Prelude.{IsTrue}
use Rattle.std.specs.Char.{is_ascii_digit}
use Rattle.std.proofs.Math.Seq.{take-add, drop-cons}
use Rattle.std.proofs.lemmas.List.{take-append-drop, length-take-le, nil_from_length}
use Rattle.edf_tal.specs.Tal.{IsText}
use Rattle.std.proofs.lemmas.List.Elements.{All-drop}
use Rattle.std.proofs.lemmas.Grind.{common_steps, flat_map-append}
use Rattle.edf_mend.specs.Body.{TimeReadsAs, TimesReadAs, Token, tokens_bytes, PartReadsAs}
use Rattle.edf_mend.specs.Body.{TokensReadAs, BlockReadsAs, changes_of_tokens}
use Rattle.edf_mend.specs.Changes.{FieldChange, changed}

pub cut-off : (text : List ℕ) (i : ℕ) → i + 10 < length text → get_or text i 0 ≡ 46 →
    All (λ b. IsTrue (is_ascii_digit b)) (drop (i + 10) text) →
    TimeReadsAs text (take (i + 10) text)
cut-off text i low dot digits =
    let nine = take 9 (drop (i + 1) text) in
    let here : drop i text ≡ 46 ∷ drop (i + 1) text = drop-cons text i 0 (omega arith)
    ∙ ap (λ n. n ∷ drop (suc i) text) dot ∙ ap (λ n. 46 ∷ drop n text) (sym (add-one i)) in
    let front : take (i + 10) text ≡ take i text ++ (46 ∷ nine) =
    take-add i 10 text ∙ ap (λ (l : List ℕ). take i text ++ take 10 l) here in
    inr (record {
      whole = take i text;
      nine = nine;
      finer = drop (i + 10) text;
      old_is = sym (take-append-drop (i + 10) text)
          ∙ ap (λ (l : List ℕ). l ++ drop (i + 10) text) front
          ∙ append_assoc (take i text) (46 ∷ nine) (drop (i + 10) text);
      len = omega (
        arith,
        length-take-le 9 (drop (i + 1) text) (omega (arith, length-drop (i + 1) text)),
      );
      digits = digits;
      new_is = front;
    })

-- what fills from one byte on, fills from the next one on
pub fill-next : (text : List ℕ) (at : ℕ) → All (λ b. (b ≡ 0) ⊎ (b ≡ 32)) (drop at text) →
    All (λ b. (b ≡ 0) ⊎ (b ≡ 32)) (drop (at + 1) text)
fill-next text at all = subst (λ (l : List ℕ). All (λ b. (b ≡ 0) ⊎ (b ≡ 32)) l)
    (drop-drop 1 at text) (All-drop (λ b. (b ≡ 0) ⊎ (b ≡ 32)) 1 (drop at text) all)

-- an onset and a duration
pub times-read : (old onset duration first second before mid then after : List ℕ) →
    old ≡ onset ++ (21 ∷ duration) → TimeReadsAs onset first → TimeReadsAs duration second →
    mid ≡ before ++ first → then ≡ mid ++ 21 ∷ [] → after ≡ then ++ second →
    (new : List ℕ) × TimesReadAs old new × (after ≡ before ++ new)
times-read old onset duration first second before mid then after is x y a b c = (
  first ++ (21 ∷ second),
  inr (onset, duration, first, second, is, refl, x, y),
  c ∙ ap (λ (l : List ℕ). l ++ second) (b ∙ ap (λ (l : List ℕ). l ++ 21 ∷ []) a)
      ∙ grind (arith, common_steps),
)

-- one more
pub read-more : (from mid to : Bool) (olds news : List Token) (old new : Token) →
    TokensReadAs from olds news mid → IsText old.text → (old.stop ≡ 0) ⊎ (old.stop ≡ 20) →
    PartReadsAs mid old.text new.text → new.stop ≡ old.stop → to ≡ (old.stop == 0) →
    TokensReadAs from (olds ++ old ∷ []) (news ++ new ∷ []) to
read-more from mid to [] [] old new are is ends read stop after =
    (is, ends, subst (λ (b : Bool). PartReadsAs b old.text new.text) are read, stop, after)
read-more from mid to [] (n ∷ ns) old new are is ends read stop after = absurd are
read-more from mid to (o ∷ os) [] old new are is ends read stop after = absurd are
read-more from mid to (o ∷ os) (n ∷ ns) old new are is ends read stop after = (
  are.0,
  are.1,
  are.2,
  are.3,
  read-more (o.stop == 0) mid to os ns old new are.4 is ends read stop after,
)

-- what differs of one more
changes-more : (nth at : ℕ) (from to : Bool) (olds news : List Token) (old new : Token) →
    TokensReadAs from olds news to →
    changes_of_tokens nth at (olds ++ old ∷ []) (news ++ new ∷ [])
    ≡ changes_of_tokens nth at olds news
    ++ changed 256 nth (at + length (tokens_bytes olds)) old.text new.text
changes-more nth at from to [] [] old new are = append-nil (changed 256 nth at old.text new.text)
    ∙ ap (λ k. changed 256 nth k old.text new.text) (omega arith)
changes-more nth at from to [] (n ∷ ns) old new are = absurd are
changes-more nth at from to (o ∷ os) [] old new are = absurd are
changes-more nth at from to (o ∷ os) (n ∷ ns) old new are =
    let here = changed 256 nth at o.text n.text in
    let next = at + length o.text + 1 in
    ap (λ (l : List FieldChange). here ++ l)
    (changes-more nth next (o.stop == 0) to os ns old new are.4)
    ∙ sym (append_assoc here (changes_of_tokens nth next os ns)
    (changed 256 nth (next + length (tokens_bytes os)) old.text new.text))
    ∙ ap (λ k. (here ++ changes_of_tokens nth next os ns) ++ changed 256 nth k old.text new.text)
    (omega (
      arith,
      length-append (o.text ++ o.stop ∷ []) (tokens_bytes os),
      length-append o.text (o.stop ∷ []),
    ))

-- what was read of a front so far, and what differs
pub record ReadSoFar (nth at : ℕ) (all rest before after : List ℕ) (to : Bool)
    (former told : List FieldChange) : Type 0 where
  pub olds : List Token
  pub news : List Token
  pub parts : all ≡ tokens_bytes olds ++ rest
  pub put : after ≡ before ++ tokens_bytes news
  pub are : TokensReadAs true olds news to
  pub told_is : told ≡ former ++ changes_of_tokens nth at olds news

pub none-read : (nth at : ℕ) (all before : List ℕ) (former : List FieldChange) →
    ReadSoFar nth at all all before before true former former
none-read nth at all before former = record {
  olds = [];
  news = [];
  parts = refl;
  put = sym (append-nil before);
  are = refl;
  told_is = sym (append-nil former);
}

pub token-read : (nth at end here : ℕ) (all rest before after text more new mid then : List ℕ)
    (stop : ℕ) (from to : Bool) (former told later : List FieldChange) →
    ReadSoFar nth at all rest before after from former told → IsText text →
    (stop ≡ 0) ⊎ (stop ≡ 20) → rest ≡ text ++ stop ∷ more → PartReadsAs from text new →
    mid ≡ after ++ new → then ≡ mid ++ stop ∷ [] → to ≡ (stop == 0) →
    later ≡ told ++ changed 256 nth here text new → length all ≡ end →
    here ≡ at + (end - length rest) → ReadSoFar nth at all more before then to former later
token-read nth at end here all rest before after text more new mid then stop from to former told
    later
    so is-text is-stop parts read put last to-is told-is len here-is =
    let old : Token = record { text = text; stop = stop } in
    let token : Token = record { text = new; stop = stop } in
    let one = λ (t : Token). t.text ++ t.stop ∷ [] in
    record {
      olds = so.olds ++ old ∷ [];
      news = so.news ++ token ∷ [];
      parts = so.parts ∙ ap (λ (l : List ℕ). tokens_bytes so.olds ++ l) parts
          ∙ (let e = flat_map-append one so.olds (old ∷ []) in rw e (grind (arith, common_steps)));
      put = last ∙ ap (λ (l : List ℕ). l ++ stop ∷ []) (put ∙ ap (λ (l : List ℕ). l ++ new) so.put)
          ∙ (let e = flat_map-append one so.news (token ∷ []) in
          rw e (grind (arith, common_steps)));
      are = read-more true from to so.olds so.news old token so.are
          is-text is-stop read refl to-is;
      told_is = told-is
          ∙ ap (λ (l : List FieldChange). l ++ changed 256 nth here text new) so.told_is
          ∙ append_assoc former (changes_of_tokens nth at so.olds so.news)
          (changed 256 nth here text new)
          ∙ ap (λ k. former ++ (changes_of_tokens nth at so.olds so.news
          ++ changed 256 nth k text new))
          (omega (
            arith,
            here-is,
            ap (λ (l : List ℕ). length l) so.parts,
            length-append (tokens_bytes so.olds) rest,
          ))
          ∙ sym (ap (λ (l : List FieldChange). former ++ l)
          (changes-more nth at true from so.olds so.news old token so.are));
    }

pub block-read : (nth from : ℕ) (block before after rest : List ℕ) (at : ℕ) (to : Bool)
    (former told : List FieldChange) →
    ReadSoFar nth from (take at block) rest before after to former told → length rest ≡ 0 →
    All (λ b. (b ≡ 0) ⊎ (b ≡ 32)) (drop at block) → (new : List ℕ) × (changes : List FieldChange)
    × BlockReadsAs nth from block new changes × (after ≡ before ++ new)
    × (told ≡ former ++ changes)
block-read nth from block before after rest at to former told so none blank =
    let empty : rest ≡ [] = nil_from_length rest none in (
      tokens_bytes so.news,
      changes_of_tokens nth from so.olds so.news,
      record {
        olds = so.olds;
        news = so.news;
        fill = drop at block;
        last = to;
        old_is = sym (take-append-drop at block) ∙ ap (λ (l : List ℕ). l ++ drop at block)
            (so.parts ∙ ap (λ (l : List ℕ). tokens_bytes so.olds ++ l) empty
            ∙ append-nil (tokens_bytes so.olds));
        blank = blank;
        each = so.are;
        new_is = refl;
        changes_are = refl;
      },
      so.put,
      so.told_is,
    )
