-- Proofs, not definitions: the tests of the alphabets say yes exactly of what fits.
use Rattle.std.specs.Prelude.{◌≡◌, ℕ, Bool, true, false, T, ◌&&◌, nat_eq}
use Rattle.std.proofs.Math.Facts.{eqb_yes, yes_eqb, leb_yes, yes_leb}
use Rattle.book.specs.Fits.{CardFits, card_test, Tests}

both : (a b : Bool) → T (a && b) → T a × T b
both true b h = (tt, h)
both false b h = absurd h

and_both : (a b : Bool) → T a → T b → T (a && b)
and_both true b g h = h
and_both false b g h = absurd g

pub bytes_tested : Tests (λ (p e : ℕ). p ≡ e) nat_eq
bytes_tested p e = (eqb_yes, yes_eqb)

pub cards_tested : Tests CardFits card_test
cards_tested p e = (
  (λ h.
      let high = both _ _ h in
      let low = both _ _ high.0 in
      (eqb_yes low.0, leb_yes low.1, leb_yes high.1)),
  (λ h. and_both _ _ (and_both _ _ (yes_eqb h.0) (yes_leb h.1)) (yes_leb h.2)),
)
