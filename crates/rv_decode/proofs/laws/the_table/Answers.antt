use Rattle.rv_decode.proofs.Found.{found}
use Rattle.rv_decode.proofs.Only.{only}
use Rattle.rv_decode.proofs.laws.the_table.Goals as goal

pub returns-clause-found : goal.returns-clause-found
returns-clause-found c = found

pub returns-clause-only : goal.returns-clause-only
returns-clause-only c = only
