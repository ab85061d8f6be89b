use Rattle.std.proofs.Common.{◌≡◌, refl, sym, arith, take, length}
use Rattle.std.proofs.lemmas.List.{length-take-le}
use Rattle.edf_mend.proofs.reading.LenientSourceSourceLenientFile.next.Goals as goal

pub returns-in-Cut-clause-answers : goal.returns-in-Cut-clause-answers
returns-in-Cut-clause-answers g c =
    let cut = c.fill.ensures.cut c.in-Cut.at c.in-Cut.is in
    let len : length (take c.in-Cut.at c.fill.new.buf) ≡ c.in-Cut.at =
    length-take-le c.in-Cut.at c.fill.new.buf (omega arith) in
    record {
      header = refl;
      timed = refl;
      answers = record {
        tail = take c.in-Cut.at c.fill.new.buf;
        read = cut.1;
        end = cut.2;
        less = omega (arith, len, c.args.file.now.capacity, c.as_mut_slice.ensures.len);
        left_out = sym len;
        changes = refl;
      };
    }
