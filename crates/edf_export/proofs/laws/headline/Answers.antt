use Rattle.edf_export.proofs.Headline.{headline, tells-one}
use Rattle.edf_export.proofs.laws.headline.Goals as goal

pub returns-clause-law : goal.returns-clause-law
returns-clause-law c = headline

pub returns-clause-files : goal.returns-clause-files
returns-clause-files c = tells-one
