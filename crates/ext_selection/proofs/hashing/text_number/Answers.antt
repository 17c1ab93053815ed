use Rattle.std.proofs.Common.{◌≡◌, ◌++◌, ◌∙◌, ℕ, ◌<◌, List, [], take, get_or, ap, arith}
use Rattle.std.proofs.lemmas.List.{get_or-take}
use Rattle.sha1.specs.Sha1.{sha1}
use Rattle.ext_selection.specs.Hashing.{text_number}
use Rattle.ext_selection.proofs.hashing.text_number.Goals as goal

byte : (xs : List ℕ) (k : ℕ) → k < 8 → get_or (take 8 xs) k 0 ≡ get_or xs k 0
byte xs k below = get_or-take 8 xs k 0 below

pub returns : goal.returns
unfolding text_number
returns c =
    let front : List ℕ = c.args.front.now in
    let digest : List ℕ = sha1 (front ++ c.args.back.now) in
    let made : c.finalize-digest.result ≡ digest =
    c.finalize-digest.ensures ([] ++ front ++ c.as_bytes.result.now)
    (c.update-2.ensures ([] ++ front) (c.update.ensures [] c.new-hasher.ensures))
    ∙ ap (λ s. sha1 (front ++ s)) c.as_bytes.ensures.value in
    let bytes = c.from_be_bytes.ensures in
    let b0 = byte digest 0 (omega arith) in
    let b1 = byte digest 1 (omega arith) in
    let b2 = byte digest 2 (omega arith) in
    let b3 = byte digest 3 (omega arith) in
    let b4 = byte digest 4 (omega arith) in
    let b5 = byte digest 5 (omega arith) in
    let b6 = byte digest 6 (omega arith) in
    let b7 = byte digest 7 (omega arith) in cc
