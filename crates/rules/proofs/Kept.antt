-- What an enter call keeps: books stay sound, and no node changes or leaves.
use Rattle.std.proofs.Common.{◌≡◌, ℕ, true, ltb, List, [], ◌∷◌, ◌++◌, length, Some, None, Ok, Err, Option, Result, sym, refl, ◌∙◌, subst, append-nil, arith, ltb-true}
use Rattle.std.proofs.lemmas.Bool.{cond_both}
use Rattle.rules.specs.Decoding.{Decoded, decoded}
use Rattle.rules.specs.Entering.{Outcome, at, missing, settled, admitted, taken, Enters}
use Rattle.rules.specs.Nodes.{place_of}
use Rattle.rules.specs.Tables.{fits_at, SoundBook, Grows}
use Rattle.rules.specs.declared.fault.EnterFault.{EnterFault}
use Rattle.rules.specs.declared.fault.EnterFault.TheVariants.{Full}
use Rattle.rules.specs.declared.node.Node.{Node}
use Rattle.rules.specs.declared.node.Place.{Place}
use Rattle.rules.proofs.Growth.{decoded_fits, sound_push}

-- the empty book
pub sound_empty : SoundBook []
sound_empty = record { few = omega arith; ordered = λ k h. absurd (omega arith); distinct = λ j k h l e. absurd (omega arith) }

-- what comes of one new node
record Step (B B' : List Node) : Type 0 where
  sound : SoundBook B'
  grows : Grows B B'

stays : (B : List Node) → SoundBook B → Step B B
stays B s = record { sound = s; grows = ([], sym (append-nil B)) }

settled_step : (B : List Node) (n : Node) → SoundBook B → fits_at n (length B) ≡ true → (o : Option ℕ) → place_of n B ≡ o → Step B (settled B n o).1
settled_step B n s f (Some k) e = stays B s
settled_step B n s f None e =
    cond_both {A = Outcome Place} (ltb (length B) 256) (Ok (at (length B)), B ++ n ∷ []) (Err Full, B) (λ o. Step B o.1)
    (λ room. record { sound = sound_push B n s (ltb-true (length B) 256 room) f e; grows = (n ∷ [], refl) })
    (λ _. stays B s)

admitted_step : (B : List Node) (n : Node) (l : ℕ) → SoundBook B → (missing n (length B) ≡ None → fits_at n (length B) ≡ true) → (o : Option Place) → missing n (length B) ≡ o → Step B (admitted B n l o).1
admitted_step B n l s f (Some a) e = stays B s
admitted_step B n l s f None e = settled_step B n s (f e) (place_of n B) refl

taken_step : (B : List Node) (bytes : List ℕ) → SoundBook B → (d : Decoded) → d ≡ decoded bytes → Step B (taken B d).1
taken_step B bytes s (Err f) e = stays B s
taken_step B bytes s (Ok p) e = admitted_step B p.0 p.1 s (decoded_fits bytes p.0 p.1 (length B) e) (missing p.0 (length B)) refl

module _ {before after : List Node} {bytes : List ℕ} {answer : Result (Place × ℕ) EnterFault} (call : Enters before bytes answer after) (s : SoundBook before) where
  pub enters_sound : SoundBook after
  enters_sound = subst SoundBook (sym call.leaves) (taken_step before bytes s (decoded bytes) refl).sound

  pub enters_grows : Grows before after
  enters_grows = let g = (taken_step before bytes s (decoded bytes) refl).grows in (g.0, call.leaves ∙ g.1)
