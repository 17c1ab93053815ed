-- The line that explains that keys have no place.
use Rattle.std.proofs.Common.{◌≡◌, ◌<◌, ◌≤◌, ℕ, Some, None, ap, arith, ◌∙◌}
use Rattle.std.specs.Prelude.{nat_le, if◌then◌else◌}
use Rattle.std.proofs.lemmas.Bool.{le-leb, lt-leb}
use Rattle.ext_run.specs.Checks.{line_of_keys, raise_line, too_many_line}

pub enough : (keys places : ℕ) → keys ≤ places → line_of_keys keys places ≡ None
unfolding line_of_keys
enough keys places h = ap (λ b. if b then None else Some (if nat_le keys 1024 then raise_line keys places else too_many_line)) (le-leb keys places h)

pub few : (keys places : ℕ) → places < keys → keys ≤ 1024 → line_of_keys keys places ≡ Some (raise_line keys places)
unfolding line_of_keys
few keys places more h =
    ap (λ b. if b then None else Some (if nat_le keys 1024 then raise_line keys places else too_many_line)) (lt-leb keys places more)
    ∙ ap (λ b. Some (if b then raise_line keys places else too_many_line)) (le-leb keys 1024 h)

pub many : (keys places : ℕ) → places ≤ 1024 → 1024 < keys → line_of_keys keys places ≡ Some too_many_line
unfolding line_of_keys
many keys places limit h =
    ap (λ b. if b then None else Some (if nat_le keys 1024 then raise_line keys places else too_many_line)) (lt-leb keys places (omega (arith, limit, h)))
    ∙ ap (λ b. Some (if b then raise_line keys places else too_many_line)) (lt-leb keys 1024 h)
