-- The table, read at the set, is Sgr_Params.
use Rattle.selfguided.proofs.ParamLaws.{table_is}
use Rattle.selfguided.proofs.parameters.params_of.Goals as goal

pub returns : goal.returns
returns c = table_is c.args.set c.requires
