-- What a plan writes, seen as the lists in use.
use Rattle.std.proofs.Common.{◌≡◌, ℕ, ◌+◌, ◌-◌, ◌<◌, ◌≤◌, List, [], ◌∷◌, ◌++◌, reverse, length, get_or, take, drop, set, Some, None, Option, sym, refl, ap, ◌∙◌, append-nil, arith, length-set}
use Rattle.std.proofs.lemmas.List.{reverse-append, take_more, take_more_set, drop-set-lt}
use Rattle.std.specs.Option.{option_to_list}
use Rattle.automata.specs.declared.items.Item.{Item}
use Rattle.tableau.specs.Plans.{items_in, new_items, entered_at, items_with}
use Rattle.tableau.specs.declared.plans.Plan.{Plan}
use Rattle.tableau.specs.declared.plans.Plan.TheVariants.{Nothing, One, Two, Join, Make}

-- ys was written after the n in use
pub record Added {X : Type 0} (n : ℕ) (old new ys : List X) : Type 0 where
  pub front : take (n + length ys) new ≡ take n old ++ ys
  pub rest : drop (n + length ys) new ≡ drop (n + length ys) old
  pub long : length new ≡ length old

module _ {X : Type 0} where
  entered_long : (o : Option X) (n : ℕ) (xs : List X) → length (entered_at o n xs) ≡ length xs
  entered_long None n xs = refl
  entered_long (Some y) n xs = length-set xs n y

  pub added : (o : Option X) (n : ℕ) (xs : List X) → n + length (option_to_list o) ≤ length xs → Added n xs (entered_at o n xs) (option_to_list o)
  added None n xs h = let e : n + 0 ≡ n = omega arith in record { front = ap (λ k. take k xs) e ∙ sym (append-nil (take n xs)); rest = refl; long = refl }
  added (Some y) n xs h = record { front = take_more_set xs n y (omega arith); rest = drop-set-lt (n + 1) xs n y (omega arith); long = length-set xs n y }

  -- the item put in last
  pub top : (n : ℕ) (xs : List X) (d : X) → 0 < n → n ≤ length xs → reverse (take n xs) ≡ get_or xs (n - 1) d ∷ reverse (take (n - 1) xs)
  top n xs d some h =
      let e : n ≡ n - 1 + 1 = omega arith in
      ap (λ k. reverse (take k xs)) e ∙ ap reverse (take_more xs (n - 1) d (omega arith)) ∙ reverse-append (take (n - 1) xs) (get_or xs (n - 1) d ∷ [])

  put_one : (m : ℕ) (xs : List X) (y : X) → m + 1 ≤ length xs → reverse (take (m + 1) (set xs m y)) ≡ y ∷ reverse (take m xs)
  put_one m xs y h = ap reverse (take_more_set xs m y (omega arith)) ∙ reverse-append (take m xs) (y ∷ [])

  put_two : (m n : ℕ) (xs : List X) (y z : X) → n ≡ m + 1 → m + 2 ≤ length xs → reverse (take (m + 2) (set (set xs m z) n y)) ≡ y ∷ z ∷ reverse (take m xs)
  put_two m n xs y z e h =
      let l = length-set xs m z in
      let f : m + 2 ≡ n + 1 = omega arith in
      ap (λ k. reverse (take k (set (set xs m z) n y))) f
      ∙ ap reverse (take_more_set (set xs m z) n y (omega arith))
      ∙ reverse-append (take n (set xs m z)) (y ∷ [])
      ∙ ap (λ k. y ∷ reverse (take k (set xs m z))) e
      ∙ ap (λ t. y ∷ t) (put_one m xs z (omega arith))

nothing_put : (m : ℕ) (xs : List Item) → reverse (take (m + 0) xs) ≡ reverse (take m xs)
nothing_put m xs = let e : m + 0 ≡ m = omega arith in ap (λ k. reverse (take k xs)) e

pub items_put : (p : Plan) (n : ℕ) (xs : List Item) → 0 < n → n - 1 + length (new_items p) ≤ length xs
    → reverse (take (n - 1 + length (new_items p)) (items_with p n xs)) ≡ new_items p ++ reverse (take (n - 1) xs)
items_put Nothing n xs some h = nothing_put (n - 1) xs
items_put (One i) n xs some h = put_one (n - 1) xs i h
items_put (Two i j) n xs some h = put_two (n - 1) n xs i j (omega arith) h
items_put (Join a) n xs some h = nothing_put (n - 1) xs
items_put (Make s a i) n xs some h = put_one (n - 1) xs i h

pub items_long : (p : Plan) (n : ℕ) (xs : List Item) → length (items_with p n xs) ≡ length xs
items_long p n xs = entered_long (items_in p).1 n _ ∙ entered_long (items_in p).0 (n - 1) xs
