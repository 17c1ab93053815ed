-- Which key a step names, how far up it acts, and how many steps and callbacks there may be.
use Rattle.std.specs.Prelude.{ℕ, Option, Some, None}
use Rattle.ext_plan.specs.Plans.{StepKeyText, StepText, keyed, fail, abort}

-- The key that a step names, if any.
abbrev pub step_key : StepText → Option StepKeyText
step_key (keyed word key text up) = Some key
step_key _ = None

-- How many contexts up a step acts.
abbrev pub height : StepText → ℕ
height (keyed word key text up) = up
height (fail text) = 0
height (abort text) = 0

-- How many steps a test or a callback has at most, so that 32 bits can count what they compute and find. A text with
-- more steps has over 12 GB.
abbrev pub step_limit : ℕ
step_limit = 4294967295

-- How many callbacks of a kind a node has at most. A text with more has over 3 MB.
abbrev pub callback_limit : ℕ
callback_limit = 1048576
