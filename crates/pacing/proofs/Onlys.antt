-- Pieces have one outcome.
use Rattle.std.proofs.Common.{◌≡◌, ◌∙◌, ℕ, ◌+◌, ◌-◌, min, sym, ap, subst, arith, refl}
use Rattle.target_law.specs.Rules.{Rules}
use Rattle.violation_watch.proofs.Perms.{perm_back}
use Rattle.target_law.specs.Served.{join}
use Rattle.pacing.specs.Laws.{AllOneOutcome}
use Rattle.pacing.specs.Pieces.{UnderwayValue, asks_through, pieced, IsPiece, ByPieces, ended, piece, begun, history, closed}
use Rattle.pacing.proofs.Orders.{perm_from, rising_once}

module _ {Inner Chan : Type 0} (rules : Rules Inner Chan) where
  one_piece : (k : ℕ) (w v u : UnderwayValue Inner Chan) → IsPiece rules k w v → IsPiece rules k w u → v ≡ u
  one_piece k w v u a b =
      let sent = asks_through rules w.clock k w.lanes in
      let same = rising_once a.asks b.asks (join (perm_back (perm_from sent a.asks a.sent)) (perm_from sent b.asks b.sent)) a.rising b.rising in
      a.after ∙ ap (λ asks. pieced rules k asks w) same ∙ sym b.after

  one_last : (quantum end : ℕ) (w e f : UnderwayValue Inner Chan) → ByPieces rules quantum end w e → ByPieces rules quantum end w f → e ≡ f
  one_last quantum end w _ _ (ended at) (ended at2) = refl
  one_last quantum end w _ _ (ended at) (piece low is rest) = absurd (omega arith)
  one_last quantum end w _ _ (piece low is rest) (ended at) = absurd (omega arith)
  one_last quantum end w _ f (piece {v = v} {e = e} low is rest) (piece {v = u} low2 is2 rest2) =
      one_last quantum end v e f rest (subst (λ x. ByPieces rules quantum end x f) (sym (one_piece (min quantum (end - w.clock)) w v u is is2)) rest2)

  pub one_outcome : AllOneOutcome rules
  one_outcome quantum k s d d2 e e2 a b =
      let same = one_last quantum (s.clock + k) (begun s) a.last b.last a.pieces b.pieces in (
        a.drift ∙ ap (history s.clock k) same ∙ sym b.drift,
        a.end ∙ ap (closed rules) same ∙ sym b.end,
      )
