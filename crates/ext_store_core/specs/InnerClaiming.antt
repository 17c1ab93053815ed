-- What an attempt to claim answers.
use Rattle.std.specs.Prelude.{ℕ, Result, Ok, Err}
use Rattle.ext_store_core.specs.declared.claim.ClaimAttempt.{ClaimAttempt}
use Rattle.ext_store_core.specs.declared.claim.ClaimAttempt.TheVariants as attempt
use Rattle.ext_store_core.specs.declared.claim.Unused.{Unused}

abbrev pub answer_of : ClaimAttempt → Result ℕ Unused
answer_of (attempt.Claimed claim) = Ok claim
answer_of (attempt.Unclaimed unused) = Err unused
answer_of (attempt.GivenUp unused) = Err unused
