-- F-1 for the two public entries: what a call gets, by its contract, is what the same call with plus zeros gets. Assumes nothing.
use Rattle.std.specs.Prelude.{◌≡◌, refl, Bool, List, ℕ, Float}
use Rattle.binary64.specs.Accepted.{plus_zero}
use Rattle.binary64.proofs.Kind.{plus_zero_again}
use Rattle.search_calls.specs.Entry.{plus_zeros, Said, bounds, collector_bounds, search_number, search_says, promotion_number, promotion_says}
use Rattle.search_calls.proofs.Copies.{plus_zeros_again}

module _ (xs candidates scratch points : List Float) (starts counts : List ℕ) (role : ℕ) (pitch minimum desired maximum : Float) (granted : ℕ) where
  -- the number of a call, as the contract of `search` names it
  abbrev pub search_of : List Float → Float → Float → Float → Float → ℕ
  search_of p lane low near high = search_number xs candidates scratch (plus_zeros p) starts counts role (plus_zero lane) (bounds (plus_zero low) (plus_zero near) (plus_zero high)) granted

  abbrev pub search_said : List Float → Float → Float → Float → Float → Said
  search_said p lane low near high = search_says (search_of p lane low near high) (plus_zeros p) starts counts role (plus_zero lane) (bounds (plus_zero low) (plus_zero near) (plus_zero high)) granted

  pub same_search : (search_of (plus_zeros points) (plus_zero pitch) (plus_zero minimum) (plus_zero desired) (plus_zero maximum) ≡ search_of points pitch minimum desired maximum)
      × (search_said (plus_zeros points) (plus_zero pitch) (plus_zero minimum) (plus_zero desired) (plus_zero maximum) ≡ search_said points pitch minimum desired maximum)
  same_search = rw (plus_zeros_again points, plus_zero_again pitch, plus_zero_again minimum, plus_zero_again desired, plus_zero_again maximum) (refl, refl)

  module _ (present : Bool) where
    abbrev pub promotion_of : List Float → Float → Float → Float → Float → ℕ
    promotion_of p lane low near high = promotion_number xs candidates scratch (plus_zeros p) starts counts role (plus_zero lane) (collector_bounds present (plus_zero low) (plus_zero near) (plus_zero high)) granted

    abbrev pub promotion_said : List Float → Float → Float → Float → Float → Said
    promotion_said p lane low near high = promotion_says (promotion_of p lane low near high) (plus_zeros p) starts counts role (plus_zero lane) (collector_bounds present (plus_zero low) (plus_zero near) (plus_zero high)) granted

    pub same_promotion : (promotion_of (plus_zeros points) (plus_zero pitch) (plus_zero minimum) (plus_zero desired) (plus_zero maximum) ≡ promotion_of points pitch minimum desired maximum)
        × (promotion_said (plus_zeros points) (plus_zero pitch) (plus_zero minimum) (plus_zero desired) (plus_zero maximum) ≡ promotion_said points pitch minimum desired maximum)
    same_promotion = rw (plus_zeros_again points, plus_zero_again pitch, plus_zero_again minimum, plus_zero_again desired, plus_zero_again maximum) (refl, refl)
