use Rattle.std.proofs.Common.{◌≡◌, ◌+◌, refl, ap, ◌∙◌, rules}
use Rattle.edf_field.specs.Number.{duration_of}
use Rattle.edf_header.specs.Key.{Key}
use Rattle.edf_header.specs.Header.{Layout}
use Rattle.edf_runs.proofs.rereading.RunAgainSourceOpenFragment.next.Goals as goal

pub returns-clause-answers : goal.returns-clause-answers
returns-clause-answers g c =
    let duration : c.duration-duration.result
    ≡ duration_of c.args.fragment.now.header.key.duration =
    c.duration-duration.ensures.value ∙ ap (λ (k : Key). duration_of k.duration) (c.identity.ensures
    ∙ ap (λ (x : Layout). x.key) c.header.ensures) in
    record {
      run = refl;
      header = c.in_ok-data_record.ensures.header;
      counted = c.in_ok-data_record.ensures.counted;
      answers = record {
        few = search rules;
        step = c.in_ok-data_record.ensures.step;
        nth = refl;
        next = ap (λ n. c.args.self.now.next + n) duration;
        counts = c.with-self.ensures;
      };
    }
