-- Files that were taken one after another, by their answers.
use Rattle.std.proofs.Common.{◌≡◌, ℕ, List, [], ◌∷◌, ◌++◌, map, Option, Some, None, Ok, Err}
use Rattle.std.proofs.Common.{◌+◌, refl, sym, ap, subst, ◌∙◌, length, arith}
use Rattle.std.proofs.lemmas.List.{length_push, map_push}
use Rattle.std.specs.List.{AllZip}
use Rattle.sqlite_trees.specs.declared.memory.MemStore.{MemStore}
use Rattle.sqlite.specs.Steps.{over_memory}
use Rattle.edf_header.specs.declared.limits.TheConstants.{MOST_RECORDS}
use Rattle.edf_fragment.specs.Call.{InputState}
use Rattle.edf_fragment.specs.Parsed.{Parsed, ParsesTo}
use Rattle.edf_holdings.specs.Holdings.{Holdings}
use Rattle.edf_holdings.specs.Reply.{Reply, reply, replies, after}
use Rattle.edf_holdings.proofs.Replies.{replies-append}
use Rattle.edf_holdings.proofs.Settled.{after-append}
use Rattle.edf_store.specs.Held.{StoreModel, Holds}
use Rattle.edf_intake.specs.Batch.{SubmitsOne}
use Rattle.edf_intake.proofs.Batches.{in_turn, answers_all}
use Rattle.edf_intake.specs.Refusal.{Answer, reply_of}
use Rattle.edf_intake.specs.declared.answer.Refusal.TheVariants as refusal
use Rattle.edf_cli.specs.Text.{IsInstantFormat}
use Rattle.edf_command.specs.Lines.{take_line}
use Rattle.edf_page.specs.declared.given.GivenFile.{GivenFile}
use Rattle.edf_page.specs.Night.{lines_by}
use Rattle.edf_page.specs.Inside.{HasIn, Submits, Takes, TakesGiven, TakesTold, stop_in}
use Rattle.edf_page.proofs.Memory.{stays_clean}

-- ---- one file

-- an answer that is no stop tells a reply
pub replied : (answer : Answer) → stop_in answer ≡ None →
    (r : Reply) × (reply_of answer ≡ Some r)
replied (Ok receipt) is = (_, refl)
replied (Err (refusal.Form fault)) is = (_, refl)
replied (Err (refusal.Overlap start stored)) is = (_, refl)
replied (Err (refusal.Differs start)) is = (_, refl)
replied (Err (refusal.Full held more most)) is = (_, refl)
replied (Err refusal.Read) is = absurd (cc)
replied (Err refusal.Memory) is = absurd (cc)
replied (Err (refusal.Store fault)) is = absurd (cc)

first-is : (one other : Reply) → one ∷ [] ≡ other ∷ [] → one ≡ other
first-is one other same = cc

pub submits-one : (old new : StoreModel MemStore) (from to : InputState) (bytes : List ℕ)
    (answer : Answer) → from.remaining ≡ Some bytes →
    SubmitsOne over_memory old new from to answer →
    new.cap ≡ old.cap → stop_in answer ≡ None → Submits old new bytes answer
submits-one old new from to bytes answer left one kept calm h told has tells =
    let all = answers_all over_memory old new (from ∷ []) (to ∷ []) (answer ∷ [])
    (in_turn over_memory old new (from ∷ []) (to ∷ []) (answer ∷ []) (new, one, refl)) in
    let r = replied answer calm in
    let is = all (told ∷ []) (r.0 ∷ []) ((bytes, left, tells), tt)
    (ap (λ (o : Option Reply). o ∷ []) r.1) h has.holds in
    let given = first-is r.0 (reply old.cap h told) (is.0 (stays_clean new.connection)) in (
      r.1 ∙ ap (λ (q : Reply). Some q) given ∙ ap (λ (c : ℕ). Some (reply c h told)) has.cap_is,
      record {
        cap_is = kept ∙ has.cap_is;
        holds = subst (λ (c : ℕ). Holds over_memory new (after c h (told ∷ []))) has.cap_is is.1;
      },
    )

pub takes_one : (old new : StoreModel MemStore) (line name bytes : List ℕ) (answer : Answer) →
    Submits old new bytes answer →
    ((spell : ℕ → List ℕ) → IsInstantFormat spell → line ≡ take_line spell name answer) →
    Takes old new (line ∷ []) (name ∷ []) (bytes ∷ [])
takes_one old new line name bytes answer submits is h [] has all = absurd all
takes_one old new line name bytes answer submits is h (told ∷ []) has all =
    let one = submits h told has all.0 in
    record {
      answers = answer ∷ [];
      answered = ap (λ (o : Option Reply). o ∷ []) one.0;
      each = refl;
      lines_are = λ spell sp. ap (λ (l : List ℕ). l ∷ []) (is spell sp);
      has = one.1;
    }
takes_one old new line name bytes answer submits is h (told ∷ u ∷ tolds) has all = absurd all.1

-- ---- one file after another

split-last : (files : List (List ℕ)) (file : List ℕ) (tolds : List Parsed) →
    AllZip ParsesTo (files ++ file ∷ []) tolds →
    (front : List Parsed) × (last : Parsed) × (tolds ≡ front ++ last ∷ [])
    × AllZip ParsesTo files front
    × ParsesTo file last
split-last [] file [] all = absurd all
split-last [] file (t ∷ []) all = ([], t, refl, tt, all.0)
split-last [] file (t ∷ u ∷ tolds) all = absurd all.1
split-last (f ∷ files) file [] all = absurd all
split-last (f ∷ files) file (t ∷ tolds) all =
    let more = split-last files file tolds all.1 in
    (t ∷ more.0, more.1, ap (λ ts. t ∷ ts) more.2, (all.0, more.3), more.4)

zip-last : (spell : ℕ → List ℕ) (names : List (List ℕ)) (answers : List Answer) (name : List ℕ)
    (answer : Answer) → length answers ≡ length names →
    lines_by spell (names ++ name ∷ []) (answers ++ answer ∷ [])
    ≡ lines_by spell names answers ++ lines_by spell (name ∷ []) (answer ∷ [])
zip-last spell [] [] name answer same = refl
zip-last spell [] (a ∷ answers) name answer same = absurd (cc)
zip-last spell (n ∷ names) [] name answer same = absurd (cc)
zip-last spell (n ∷ names) (a ∷ answers) name answer same =
    ap (λ (lines : List (List ℕ)). take_line spell n a ∷ lines)
    (zip-last spell names answers name answer (omega (arith, same)))

-- an answer list of one
only-one : (h : Holdings) (told : Parsed) (answers : List Answer) →
    map reply_of answers ≡ map Some (replies MOST_RECORDS h (told ∷ [])) →
    (answer : Answer) × (answers ≡ answer ∷ [])
only-one h told [] is = absurd (cc)
only-one h told (a ∷ []) is = (a, refl)
only-one h told (a ∷ b ∷ answers) is = absurd (cc)

longer : {A B : Type 0} (xs : List A) (ys : List B) (x : A) (y : B) → length xs ≡ length ys →
    length (xs ++ x ∷ []) ≡ length (ys ++ y ∷ [])
longer xs ys x y same = length_push xs x ∙ (ap (λ (n : ℕ). n + 1) same ∙ sym (length_push ys y))

-- what was taken, and then one file more
more_taken : (old mid new : StoreModel MemStore) (lines names files : List (List ℕ))
    (line name file : List ℕ) → Takes old mid lines names files →
    Takes mid new (line ∷ []) (name ∷ []) (file ∷ []) →
    Takes old new (lines ++ line ∷ []) (names ++ name ∷ []) (files ++ file ∷ [])
more_taken old mid new lines names files line name file first then h tolds has all =
    let parts = split-last files file tolds all in
    let front = parts.0 in
    let last = parts.1 in
    let one = first h front has parts.3 in
    let h' = after MOST_RECORDS h front in
    let two = then h' (last ∷ []) one.has (parts.4, tt) in
    let only = only-one h' last two.answers two.answered in
    let answered : map reply_of (one.answers ++ only.0 ∷ [])
    ≡ map Some (replies MOST_RECORDS h (front ++ last ∷ [])) =
    map_push reply_of one.answers only.0
    ∙ (ap (λ (os : List (Option Reply)). os ++ reply_of only.0 ∷ []) one.answered
    ∙ (ap (λ (os : List (Option Reply)). map Some (replies MOST_RECORDS h front) ++ os)
    (subst (λ (told : List Answer). map reply_of told ≡ map Some (replies MOST_RECORDS h'
    (last ∷ []))) only.1 two.answered)
    ∙ (sym (map_push Some (replies MOST_RECORDS h front) (reply MOST_RECORDS h' last))
    ∙ ap (map Some) (sym (replies-append MOST_RECORDS h front (last ∷ [])))))) in
    subst (λ (ts : List Parsed). TakesTold new (lines ++ line ∷ []) (names ++ name ∷ []) h ts)
    (sym parts.2) (record {
      answers = one.answers ++ only.0 ∷ [];
      answered = answered;
      each = longer one.answers names only.0 name one.each;
      lines_are = λ spell is.
          let more = subst (λ (told : List Answer). line ∷ [] ≡ lines_by spell (name ∷ []) told)
          only.1 (two.lines_are spell is) in
          ap (λ (ls : List (List ℕ)). ls ++ line ∷ []) (one.lines_are spell is)
          ∙ (ap (λ (ls : List (List ℕ)). lines_by spell names one.answers ++ ls) more
          ∙ sym (zip-last spell names one.answers name only.0 one.each));
      has = subst (HasIn new) (sym (after-append MOST_RECORDS h front (last ∷ []))) two.has;
    })

pub takes_more : (old mid new : StoreModel MemStore) (lines : List (List ℕ)) (line : List ℕ)
    (front : List GivenFile) (file : GivenFile) → TakesGiven old mid lines front →
    Takes mid new (line ∷ []) (file.name.now ∷ []) (file.bytes.now ∷ []) →
    TakesGiven old new (lines ++ line ∷ []) (front ++ file ∷ [])
takes_more old mid new lines line front file first then =
    let name : GivenFile → List ℕ = λ f. f.name.now in
    let bytes : GivenFile → List ℕ = λ f. f.bytes.now in
    subst (λ (names : List (List ℕ)). Takes old new (lines ++ line ∷ []) names
    (map bytes (front ++ file ∷ []))) (sym (map_push name front file))
    (subst (Takes old new (lines ++ line ∷ []) (map name front ++ file.name.now ∷ []))
    (sym (map_push bytes front file)) (more_taken old mid new lines (map name front)
    (map bytes front) line file.name.now file.bytes.now first then))

-- nothing was taken yet
pub takes_none : (store : StoreModel MemStore) → Takes store store [] [] []
takes_none store h [] has all = record {
  answers = [];
  answered = refl;
  each = refl;
  lines_are = λ spell is. refl;
  has = has;
}
takes_none store h (t ∷ tolds) has all = absurd all
