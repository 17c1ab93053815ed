use Rattle.std.proofs.Common.{◌≡◌, ◌+◌, ◌++◌, ◌∷◌, [], refl, ap, sym, subst, Some}
use Rattle.std.specs.Prelude.{IfSome}
use Rattle.ext_cells.specs.InnerPasses.{Says, IsFirstSaid}
use Rattle.ext_cells.proofs.Readings.{still_said, now_said, one_more}
use Rattle.ext_cells.proofs.nearest.Reading.with.Goals as goal
use Rattle.ext_cells.proofs.nearest.Reading.with.Goals.{in-Some, in-None}

pub returns-clause-reading : goal.returns-clause-reading
returns-clause-reading c words is =
    let first : IsFirstSaid (words ++ c.args.word ∷ []) c.match-self.nearest = elim c.match-self.branch [
      | in-Some w ↦ subst (IsFirstSaid (words ++ c.args.word ∷ [])) (sym w.nearest-is) (still_said words c.args.word w.in-Some.nearest (subst (IsFirstSaid words) w.in-Some.is is.nearest))
      | in-None w ↦
          let fresh = w.nearest_at-nearest.ensures in
          let empty = subst (IsFirstSaid words) w.in-None.is is.nearest in
          let indexed = subst (λ at. IfSome w.nearest_at-nearest.result (λ n. (n.index ≡ at) × Says c.args.word (Some n.standing))) is.count fresh.some in
          subst (IsFirstSaid (words ++ c.args.word ∷ [])) (sym w.nearest-is) (now_said words c.args.word w.nearest_at-nearest.result empty fresh.none indexed)
    ] in
    one_more words c.args.word c.args.self _ _ c.match-self.nearest is refl (ap (λ v. c.args.self.versions + v) c.version.ensures.version) first
