use Rattle.ext_tree.proofs.KeyLaws.{numbers_tell, cells_tell, namespaces_tell}
use Rattle.ext_tree.proofs.laws.key_laws.Goals as goal

pub returns : goal.returns
returns c = record { namespaces = namespaces_tell; numbers = numbers_tell; cells = cells_tell }
