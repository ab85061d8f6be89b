use Rattle.edf_tal.proofs.Judge.{blocks-one-read, blocks-read-no-fault, blocks-one-fault}
use Rattle.edf_tal.proofs.laws.one_answer.Goals as goal

pub returns-clause-one_read : goal.returns-clause-one_read
returns-clause-one_read c = λ bs s p m n k l r q. let same = blocks-one-read bs s p m n k l r q in
    (same.start, same.list)

pub returns-clause-not_both : goal.returns-clause-not_both
returns-clause-not_both c = blocks-read-no-fault

pub returns-clause-one_fault : goal.returns-clause-one_fault
returns-clause-one_fault c = blocks-one-fault
