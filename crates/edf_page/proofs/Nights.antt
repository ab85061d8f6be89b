-- What comes of files is one thing, but for pictures: runs of the same data records have the same
-- lines, and so have files with the same answers.
use Rattle.std.proofs.Common.{◌≡◌, ◌≢◌, ℕ, ◌+◌, ◌-◌, ◌*◌, List, [], ◌∷◌, ◌++◌, map, length}
use Rattle.std.proofs.Common.{Option, Some, codes, decimal, refl, sym, ap, subst, ◌∙◌, arith}
use Rattle.std.proofs.Common.{All, fold, Ok, Err, inl, inr}
use Rattle.std.specs.Prelude.{slice_get}
use Rattle.std.specs.List.{AllZip, zip, flat_map}
use Rattle.std.proofs.lemmas.List.{take_all}
use Rattle.std.proofs.lemmas.List.Folds.{flat_map-map}
use Rattle.std.proofs.lemmas.List.Elements.{All-head, All-tail}
use Rattle.sqlite_trees.specs.declared.memory.MemStore.{MemStore}
use Rattle.sqlite.specs.Steps.{over_memory}
use Rattle.edf_time.specs.Decimal.{short}
use Rattle.edf_field.specs.Number.{duration_of}
use Rattle.edf_header.specs.declared.limits.TheConstants.{MOST_RECORDS}
use Rattle.edf_header.specs.Key.{Key}
use Rattle.edf_fragment.specs.Call.{InputState}
use Rattle.edf_fragment.specs.Parsed.{Parsed, ParsesTo}
use Rattle.edf_fragment.specs.Fragment.{DataRecord}
use Rattle.edf_holdings.specs.Holdings.{Holdings, nothing_held}
use Rattle.edf_holdings.specs.Reply.{Reply, Form, Conflicts, Accepted, Overlap, Differs, Full}
use Rattle.edf_holdings.specs.Reply.{replies}
use Rattle.edf_holdings.proofs.KeyLists.{keys_are_one}
use Rattle.edf_store.specs.Held.{StoreModel}
use Rattle.edf_store.specs.declared.fault.StoreFault.TheVariants as store
use Rattle.edf_intake.specs.Batch.{AreSubmitted, WillParseTo}
use Rattle.edf_intake.specs.Refusal.{Answer, reply_of}
use Rattle.edf_intake.specs.Submitted.{IsSubmitAnswer}
use Rattle.edf_intake.specs.declared.answer.Refusal.TheVariants as refusal
use Rattle.edf_export.proofs.Headline.{tells-one}
use Rattle.edf_runs.specs.Runs.{StartFrom, IsListed, AreListed}
use Rattle.edf_runs.specs.declared.run.Run.{Run}
use Rattle.edf_runs.proofs.Parts.{one-runs}
use Rattle.edf_cli.specs.Status.{worse}
use Rattle.edf_cli.specs.declared.status.Status.{Status}
use Rattle.edf_cli.specs.declared.status.Status.TheVariants.{Done, Refused, Usage, Trouble}
use Rattle.edf_command.specs.Lines.{accepted_line, refused_file_line, take_line, take_lines}
use Rattle.edf_command.specs.Lines.{first_take_lines, answer_status, take_status, list_lines}
use Rattle.edfruns_command.specs.Lines.{run_front, run_lines, gap_text}
use Rattle.edfruns_command.specs.Lines.{line_end}
use Rattle.edf_page.specs.Laws.{AreAlike, OneNightComes, TakeWritesLines}
use Rattle.edf_page.specs.Laws.{ListWritesRuns}
use Rattle.edf_page.specs.Night.{AreAnswered, AreTaken, AreRunLines, AreGiven, IsRecording}
use Rattle.edf_page.specs.Night.{held_after, lines_by}
use Rattle.edf_page.specs.declared.night.Recording.{Recording}
use Rattle.edf_page.proofs.Files.{said-whole, gets-whole, lists-file, run-lines-are}
use Rattle.edf_page.proofs.Memory.{stays_clean}
use Rattle.edf_page.proofs.Spelling.{one_spelling, one_spelling-is}

-- ---- lists

head-is : {A : Type 0} (x y : A) (xs ys : List A) → x ∷ xs ≡ y ∷ ys → x ≡ y
head-is x y xs ys same = cc

tail-is : {A : Type 0} (x y : A) (xs ys : List A) → x ∷ xs ≡ y ∷ ys → xs ≡ ys
tail-is x y xs ys same = cc

-- ---- runs

-- they tell the same in a line
record IsAlike (r other : Run) : Type 0 where
  first : r.first ≡ other.first
  last : r.last ≡ other.last
  records : r.records ≡ other.records

same-start : (d : ℕ) (rs : List DataRecord) (a b : ℕ) → rs ≢ [] → StartFrom d a rs →
    StartFrom d b rs → a ≡ b
same-start d [] a b some one other = absurd (some refl)
same-start d (r ∷ rs) a b some one other = sym one.0 ∙ other.0

one-listed : (d : ℕ) (rs : List DataRecord) (r other : Run) → rs ≢ [] → IsListed d rs r →
    IsListed d rs other → IsAlike r other
one-listed d rs r other some one is =
    let first = same-start d rs r.first other.first some one.starts is.starts in
    let records = one.count ∙ sym is.count in
    record {
      first = first;
      last = one.last ∙ ap (λ (f : ℕ). f + (r.records - 1) * d) first
          ∙ ap (λ (n : ℕ). other.first + (n - 1) * d) records ∙ sym is.last;
      records = records;
    }

all-listed : (d : ℕ) (runs : List (List DataRecord)) (rs others : List Run) →
    All (λ run. run ≢ []) runs → AllZip (IsListed d) runs rs → AllZip (IsListed d) runs others →
    AllZip IsAlike rs others
all-listed d [] [] [] some p q = tt
all-listed d [] [] (o ∷ os) some p q = absurd q
all-listed d [] (r ∷ rs) os some p q = absurd p
all-listed d (run ∷ runs) [] os some p q = absurd p
all-listed d (run ∷ runs) (r ∷ rs) [] some p q = absurd q
all-listed d (run ∷ runs) (r ∷ rs) (o ∷ os) some p q = (
  one-listed d run r o (All-head (λ run. run ≢ []) run runs some) p.0 q.0,
  all-listed d runs rs os (All-tail (λ run. run ≢ []) run runs some) p.1 q.1,
)

are-alike : (d : ℕ) (records : List DataRecord) (rs others : List Run) → AreListed d records rs →
    AreListed d records others → AllZip IsAlike rs others
are-alike d records rs others one other =
    let same = one-runs d records other.runs one.runs other.are_runs one.are_runs in
    all-listed d one.runs rs others one.are_runs.none_empty one.each
    (subst (λ (runs : List (List DataRecord)). AllZip (IsListed d) runs others) same other.each)

-- ---- their lines

module _ (spell : ℕ → List ℕ) (d : ℕ) where
  gap : (r o : Run) (rs os : List Run) → IsAlike r o → AllZip IsAlike rs os →
      gap_text d r (slice_get rs 0) ≡ gap_text d o (slice_get os 0)
  gap r o [] [] alike all = refl
  gap r o [] (m ∷ os) alike all = absurd all
  gap r o (n ∷ rs) [] alike all = absurd all
  gap r o (n ∷ rs) (m ∷ os) alike all =
      ap (λ (f : ℕ). codes " gap=" ++ short (f - (r.last + d))) all.0.first
      ∙ ap (λ (l : ℕ). codes " gap=" ++ short (m.first - (l + d))) alike.last

  line : (number : ℕ) (r o : Run) (next other : Option Run) → IsAlike r o →
      gap_text d r next ≡ gap_text d o other →
      run_front spell d number r next ≡ run_front spell d number o other
  line number r o next other alike same =
      let text : ℕ → ℕ → ℕ → List ℕ → List ℕ = λ records first last g. decimal number
      ++ (codes " records=" ++ (decimal records ++ (codes " first=" ++ (spell first
      ++ (codes " seconds=" ++ (short ((last + d) - first) ++ g)))))) in
      ap (λ (n : ℕ). text n r.first r.last (gap_text d r next)) alike.records
      ∙ ap (λ (n : ℕ). text o.records n r.last (gap_text d r next)) alike.first
      ∙ ap (λ (n : ℕ). text o.records o.first n (gap_text d r next)) alike.last
      ∙ ap (text o.records o.first o.last) same

module _ (spell : ℕ → List ℕ) (k : Key) where
  lines : (number : ℕ) (rs os : List Run) → AllZip IsAlike rs os →
      run_lines spell k [] number rs ≡ run_lines spell k [] number os
  lines number [] [] all = refl
  lines number [] (o ∷ os) all = absurd all
  lines number (r ∷ rs) [] all = absurd all
  lines number (r ∷ rs) (o ∷ os) all =
      let d = duration_of k.duration in
      ap (λ (l : List ℕ). l ++ (line_end k ++ run_lines spell k [] (number + 1) rs))
      (line spell d number r o (slice_get rs 0) (slice_get os 0) all.0
      (gap spell d r o rs os all.0 all.1))
      ∙ ap (λ (l : List ℕ). run_front spell d number o (slice_get os 0) ++ (line_end k ++ l))
      (lines (number + 1) rs os all.1)

pub one-run-lines : (k : Key) (records : List DataRecord) (lines-of others : List ℕ) →
    AreRunLines k records lines-of → AreRunLines k records others → lines-of ≡ others
one-run-lines k records lines-of others one other =
    one.are_lines one_spelling one_spelling-is
    ∙ lines one_spelling k 1 one.runs other.runs
    (are-alike (duration_of k.duration) records one.runs other.runs one.are_runs other.are_runs)
    ∙ sym (other.are_lines one_spelling one_spelling-is)

-- ---- the lines of files

-- what a reply is told by
abbrev reply_line : (ℕ → List ℕ) → List ℕ → Reply → List ℕ
reply_line spell name (Accepted k new known) = accepted_line name new known
reply_line spell name (Form fault) = refused_file_line spell name (refusal.Form fault)
reply_line spell name (Conflicts (Overlap start stored)) =
    refused_file_line spell name (refusal.Overlap start stored)
reply_line spell name (Conflicts (Differs start)) =
    refused_file_line spell name (refusal.Differs start)
reply_line spell name (Conflicts (Full held more most)) =
    refused_file_line spell name (refusal.Full held more most)

some-is : (one other : Reply) → Some one ≡ Some other → one ≡ other
some-is one other same = cc

module _ (spell : ℕ → List ℕ) (name : List ℕ) where
  told-by : (answer : Answer) (r : Reply) → reply_of answer ≡ Some r →
      take_line spell name answer ≡ reply_line spell name r
  told-by (Ok receipt) r is = ap (reply_line spell name) (some-is _ r is)
  told-by (Err (refusal.Form fault)) r is = ap (reply_line spell name) (some-is _ r is)
  told-by (Err (refusal.Overlap start stored)) r is = ap (reply_line spell name) (some-is _ r is)
  told-by (Err (refusal.Differs start)) r is = ap (reply_line spell name) (some-is _ r is)
  told-by (Err (refusal.Full held more most)) r is = ap (reply_line spell name) (some-is _ r is)
  told-by (Err refusal.Read) r is = absurd (cc)
  told-by (Err refusal.Memory) r is = absurd (cc)
  told-by (Err (refusal.Store fault)) r is = absurd (cc)

-- a line for each reply
abbrev reply_lines : (ℕ → List ℕ) → List (List ℕ) → List Reply → List (List ℕ)
reply_lines spell names rs = map (λ p. reply_line spell p.0 p.1) (zip names rs)

by-replies : (spell : ℕ → List ℕ) (names : List (List ℕ)) (answers : List Answer)
    (rs : List Reply) → map reply_of answers ≡ map Some rs →
    lines_by spell names answers ≡ reply_lines spell names rs
by-replies spell [] [] [] is = refl
by-replies spell [] [] (r ∷ rs) is = absurd (cc)
by-replies spell [] (a ∷ answers) [] is = absurd (cc)
by-replies spell [] (a ∷ answers) (r ∷ rs) is = refl
by-replies spell (n ∷ names) [] [] is = refl
by-replies spell (n ∷ names) [] (r ∷ rs) is = absurd (cc)
by-replies spell (n ∷ names) (a ∷ answers) [] is = absurd (cc)
by-replies spell (n ∷ names) (a ∷ answers) (r ∷ rs) is =
    ap (λ (l : List ℕ). l ∷ lines_by spell names answers)
    (told-by spell n a r (head-is (reply_of a) (Some r) (map reply_of answers) (map Some rs) is))
    ∙ ap (λ (ls : List (List ℕ)). reply_line spell n r ∷ ls)
    (by-replies spell names answers rs (tail-is (reply_of a) (Some r) (map reply_of answers)
    (map Some rs) is))

pub one-taken : (names : List (List ℕ)) (tolds : List Parsed) (lines-of others : List (List ℕ)) →
    AreTaken names tolds lines-of → AreTaken names tolds others → lines-of ≡ others
one-taken names tolds lines-of others one other =
    let rs = replies MOST_RECORDS nothing_held tolds in
    one.each one_spelling one_spelling-is
    ∙ by-replies one_spelling names one.answers rs one.answered
    ∙ sym (by-replies one_spelling names other.answers rs other.answered)
    ∙ sym (other.each one_spelling one_spelling-is)

-- ---- recordings

alike-each : (h : Holdings) (keys : List Key) (rs os : List Recording) →
    AllZip (IsRecording h) keys rs → AllZip (IsRecording h) keys os → AllZip AreAlike rs os
alike-each h [] [] [] p q = tt
alike-each h [] [] (o ∷ os) p q = absurd q
alike-each h [] (r ∷ rs) os p q = absurd p
alike-each h (k ∷ keys) [] os p q = absurd p
alike-each h (k ∷ keys) (r ∷ rs) [] p q = absurd q
alike-each h (k ∷ keys) (r ∷ rs) (o ∷ os) p q = (
  (
    q.0.is_file.only r.file.items p.0.is_file.canonical,
    one-run-lines k (h k) r.runs.items o.runs.items p.0.runs q.0.runs,
  ),
  alike-each h keys rs os p.1 q.1,
)

one-given : (h : Holdings) (listed others : List ℕ) (rs os : List Recording) →
    AreGiven h listed rs → AreGiven h others os → (listed ≡ others) × AllZip AreAlike rs os
one-given h listed others rs os one other =
    let same = keys_are_one h other.keys one.keys other.are_keys one.are_keys in (
      one.lines one_spelling one_spelling-is
          ∙ sym (ap (list_lines one_spelling h 1) same)
          ∙ sym (other.lines one_spelling one_spelling-is),
      alike-each h one.keys rs os one.each
          (subst (λ (ks : List Key). AllZip (IsRecording h) ks os) same other.each),
    )

pub one-night : OneNightComes
one-night names files night other one is =
    let told = tells-one files in
    let same = told.only one.submissions one.parsed ∙ sym (told.only is.submissions is.parsed) in
    let given = one-given (held_after one.submissions) night.listed.items other.listed.items
    night.recordings.items other.recordings.items one.given (subst (λ (ts : List Parsed).
    AreGiven (held_after ts) other.listed.items other.recordings.items) (sym same) is.given) in
    record {
      taken = one-taken names one.submissions _ _ one.taken
          (subst (λ (ts : List Parsed). AreTaken names ts _) (sym same) is.taken);
      listed = given.0;
      each = given.1;
    }

-- ---- what the programs write

pub list-writes-runs : ListWritesRuns
list-writes-runs out err file name text lines-of k records is are from done =
    one-run-lines k records text lines-of (run-lines-are file k records text is
    (lists-file out err file text name from.empty from.is done)) are

worse-trouble : (status : Status) → worse status Trouble ≡ Trouble
worse-trouble Done = refl
worse-trouble Refused = refl
worse-trouble Usage = refl
worse-trouble Trouble = refl

trouble-stays : (status : Status) → worse Trouble status ≡ Trouble
trouble-stays Done = refl
trouble-stays Refused = refl
trouble-stays Usage = refl
trouble-stays Trouble = refl

abbrev worst : Status → List Answer → Status
worst status answers = fold (λ s answer. worse s (answer_status answer)) status answers

worst-trouble : (answers : List Answer) → worst Trouble answers ≡ Trouble
worst-trouble [] = refl
worst-trouble (a ∷ answers) =
    ap (λ (s : Status). worst s answers) (trouble-stays (answer_status a)) ∙ worst-trouble answers

abbrev AllCalm : List Answer → Type 0
AllCalm [] = Unit {0}
AllCalm (a ∷ answers) = (answer_status a ≢ Trouble) × AllCalm answers

all-calm : (answers : List Answer) (status : Status) → worst status answers ≢ Trouble →
    AllCalm answers
all-calm [] status calm = tt
all-calm (a ∷ answers) status calm = (
  λ is. calm (ap (λ (s : Status). worst (worse status s) answers) is
      ∙ ap (λ (s : Status). worst s answers) (worse-trouble status) ∙ worst-trouble answers),
  all-calm answers (worse status (answer_status a)) calm,
)

-- an answer that is no trouble tells a reply
calm-reply : (old new : StoreModel MemStore) (from to : InputState) (answer : Answer) →
    IsSubmitAnswer over_memory old new from to answer → answer_status answer ≢ Trouble →
    (r : Reply) × (reply_of answer ≡ Some r)
calm-reply old new from to (Ok receipt) s calm = (_, refl)
calm-reply old new from to (Err (refusal.Form fault)) s calm = (_, refl)
calm-reply old new from to (Err (refusal.Overlap start stored)) s calm = (_, refl)
calm-reply old new from to (Err (refusal.Differs start)) s calm = (_, refl)
calm-reply old new from to (Err (refusal.Full held more most)) s calm = (_, refl)
calm-reply old new from to (Err refusal.Read) s calm = absurd (calm refl)
calm-reply old new from to (Err refusal.Memory) s calm = absurd (calm refl)
calm-reply old new from to (Err (refusal.Store store.Memory)) s calm = absurd (calm refl)
calm-reply old new from to (Err (refusal.Store (store.Store cause))) s calm = absurd (calm refl)
calm-reply old new from to (Err (refusal.Store store.Foreign)) s calm = absurd (calm refl)
calm-reply old new from to (Err (refusal.Store store.Failed)) s calm = absurd s.1

calm-replies : (old new : StoreModel MemStore) (froms tos : List InputState)
    (answers : List Answer) → AreSubmitted over_memory old new froms tos answers →
    AllCalm answers → (rs : List Reply) × (map reply_of answers ≡ map Some rs)
calm-replies old new [] [] [] are calm = ([], refl)
calm-replies old new [] [] (a ∷ answers) are calm = absurd are
calm-replies old new [] (to ∷ tos) answers are calm = absurd are
calm-replies old new (from ∷ froms) [] answers are calm = absurd are
calm-replies old new (from ∷ froms) (to ∷ tos) [] are calm = absurd are
calm-replies old new (from ∷ froms) (to ∷ tos) (a ∷ answers) are calm =
    let first = calm-reply old are.0 from to a are.1.submitted calm.0 in
    let more = calm-replies are.0 new froms tos answers are.2 calm.1 in (
      first.0 ∷ more.0,
      ap (λ (o : Option Reply). o ∷ map reply_of answers) first.1
          ∙ ap (λ (os : List (Option Reply)). Some first.0 ∷ os) more.1,
    )

will-print_text : (froms : List InputState) (files : List (List ℕ)) (tolds : List Parsed) →
    map (λ (f : InputState). f.remaining) froms ≡ map Some files → AllZip ParsesTo files tolds →
    AllZip WillParseTo froms tolds
will-print_text [] [] [] same all = tt
will-print_text [] [] (t ∷ tolds) same all = absurd all
will-print_text [] (b ∷ files) tolds same all = absurd (cc)
will-print_text (f ∷ froms) [] tolds same all = absurd (cc)
will-print_text (f ∷ froms) (b ∷ files) [] same all = absurd all
will-print_text (f ∷ froms) (b ∷ files) (t ∷ tolds) same all = (
  (
    b,
    head-is f.remaining (Some b) (map (λ (g : InputState). g.remaining) froms)
        (map Some files) same,
    all.0,
  ),
  will-print_text froms files tolds (tail-is f.remaining (Some b)
      (map (λ (g : InputState). g.remaining) froms)
      (map Some files) same) all.1,
)

pub take-writes-lines : TakeWritesLines
take-writes-lines old new out err bytes names files lines-of tolds text status has same told are
    from calm (inl t) =
    let whole = said-whole out (first_take_lines one_spelling names t.answers) (length t.answers)
    (take_status t.answers) status (t.said one_spelling one_spelling-is) calm in
    let rs = calm-replies old new t.froms t.tos t.answers t.submitted
    (all-calm t.answers Done (λ is. calm (whole.1 ∙ is))) in
    let given = (t.answered tolds rs.0
    (will-print_text t.froms files tolds (t.opened ∙ same) told) rs.1
    nothing_held has.holds).0 (stays_clean new.connection) in
    let replied : AreAnswered tolds t.answers = rs.1 ∙ ap (map Some) (given
    ∙ ap (λ (c : ℕ). replies c nothing_held tolds) has.cap_is) in
    let rs' = replies MOST_RECORDS nothing_held tolds in
    let told-lines : lines-of ≡ lines_by one_spelling names t.answers =
    are.each one_spelling one_spelling-is ∙ by-replies one_spelling names are.answers rs'
    are.answered
    ∙ sym (by-replies one_spelling names t.answers rs' replied) in
    gets-whole out text _ from.empty from.is whole.0
    ∙ ap (take_lines one_spelling names) (take_all (length t.answers) t.answers (omega arith))
    ∙ sym (flat_map-map (λ (line : List ℕ). line) (λ p. take_line one_spelling p.0 p.1)
    (zip names t.answers))
    ∙ ap (flat_map (λ line. line)) (sym told-lines)
take-writes-lines old new out err bytes names files lines-of tolds text status has same told are
    from calm (inr p) = absurd (elim p.1.1 [
      | inl q ↦ calm q.1
      | inr q ↦ calm q.1
    ])
