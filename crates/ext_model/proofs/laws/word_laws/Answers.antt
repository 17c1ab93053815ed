use Rattle.ext_model.proofs.Words.{word-event, word-elsewhere, drawn-push}
use Rattle.ext_model.proofs.Numbers.{bounded}
use Rattle.ext_model.proofs.Versions.{same_version, same_word_between, word_parts, versions_rise_within, versions_rise}
use Rattle.ext_model.proofs.Claims.{quiet_word, quiet_slot, version_fits, claim_can_end, can_be_sealed}
use Rattle.ext_model.proofs.laws.word_laws.Goals as goal

pub returns : goal.returns
returns c = record {
  event = word-event;
  elsewhere = word-elsewhere;
  count = drawn-push;
  quiet_words = quiet_word;
  quiet_cells = quiet_slot;
  equal_words = λ limits h rest cell small legal same. same_version h rest cell small legal same;
  words_between = λ limits h between rest cell small legal same. same_word_between h between rest cell small legal same;
  versions = versions_rise_within;
  unequal_words = versions_rise;
  parts = word_parts;
  numbers_fit = λ limits h cell legal. (bounded h legal).slots cell;
  versions_fit = λ limits h cell legal. version_fits h cell legal;
  claims_end = λ limits h lane cell legal is. claim_can_end h lane cell legal is;
  seals_left = λ limits h cell legal is_open. can_be_sealed h cell legal is_open;
}
