use Rattle.std.proofs.Common.{◌≡◌, ◌++◌, drop, true}
use Rattle.ext_tree.specs.Keys as keys
use Rattle.ext_c.specs.declared.code.Code.{Code}
use Rattle.ext_c.specs.Texts.{AreTexts, IsTextFault, texts_in}
use Rattle.ext_c.proofs.texts.read_texts.Given as goal

abbrev pub invariant-loop-length : goal.invariant-loop-length
invariant-loop-length l = record {
  cut : l.is_whole ≡ true → texts_in l.bytes l.lengths ≡ keys.texts_of l.texts.items ++ texts_in l.rest (drop l.length-index l.lengths);
  well : AreTexts l.rest (drop l.length-index l.lengths) → AreTexts l.bytes l.lengths;
  fault : (said : Code) → IsTextFault l.rest (drop l.length-index l.lengths) said → IsTextFault l.bytes l.lengths said;
}
