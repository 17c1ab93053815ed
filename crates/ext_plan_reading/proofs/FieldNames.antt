-- The fields of a table, one after another.
use Rattle.std.proofs.Common.{◌≡◌, ℕ, Bool, true, ◌&&◌, List, [], ◌∷◌, map, String, Global, string_bytes, refl, Bor}
use Rattle.std.specs.List.{list_any}
use Rattle.std.specs.Str.{bytes_eq}
use Rattle.std.specs.Map.{keys_of}
use Rattle.toml.specs.declared.value.Value.{Value}
use Rattle.toml.specs.View.{members_view}
use Rattle.ext_plan_reading.specs.Fields.{has_only}
use Rattle.ext_plan_reading.proofs.Lists.{list_any-map}

-- each of the names is among the others
abbrev pub are_among : List (Bor (List ℕ)) → List (String Global) → Bool
are_among names [] = true
are_among names (k ∷ ks) = list_any (λ n. bytes_eq n.now (string_bytes k)) names && are_among names ks

pub has_only-keys : (names : List (Bor (List ℕ))) (es : List (String Global × Value)) → has_only (map (λ n. n.now) names) (members_view es) ≡ are_among names (keys_of es)
has_only-keys names [] = refl
has_only-keys names (e ∷ es) = rw (list_any-map (λ n. n.now) (λ n. bytes_eq n (string_bytes e.0)) names, has_only-keys names es) refl
