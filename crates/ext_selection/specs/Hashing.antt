-- The number that a text has on each machine: the first eight bytes of its SHA-1 digest (FIPS 180-4), high first. An
-- own rule.
use Rattle.std.specs.Prelude.{ℕ, List, take}
use Rattle.std.specs.Int.{w64, from_be_bytes}
use Rattle.sha1.specs.Sha1.{sha1}

unfoldable pub text_number : List ℕ → ℕ
text_number text = from_be_bytes w64 (take 8 (sha1 text))
