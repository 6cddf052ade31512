use Rattle.status_map.proofs.Lawful.{all_lawful}
use Rattle.status_map.proofs.laws.law_of_posts.Goals as goal

pub returns : goal.returns
returns c = all_lawful
