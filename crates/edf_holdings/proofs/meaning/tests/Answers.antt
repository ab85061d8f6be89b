use Rattle.edf_holdings.proofs.InSets.{same_key_is_equal, same_record_is_equal, test_is_clash}
use Rattle.edf_holdings.proofs.InSets.{holds_is_contains}
use Rattle.edf_holdings.proofs.meaning.tests.Goals as goal

pub returns-clause-key : goal.returns-clause-key
returns-clause-key c = same_key_is_equal

pub returns-clause-record : goal.returns-clause-record
returns-clause-record c = same_record_is_equal

pub returns-clause-clash : goal.returns-clause-clash
returns-clause-clash c = test_is_clash

pub returns-clause-holds : goal.returns-clause-holds
returns-clause-holds c = holds_is_contains
