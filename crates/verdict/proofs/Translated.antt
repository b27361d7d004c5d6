-- What a translation is at each position of its log: the defined steps from the core form of its rule.
use Rattle.std.proofs.Common.{◌≡◌, ℕ, ◌≤◌, List, [], ◌∷◌, ◌++◌, reverse, length, take, drop, sym, refl, ap, ◌∙◌, subst, arith, length-append, length-take}
use Rattle.std.proofs.lemmas.List.{length-reverse}
use Rattle.std.proofs.lemmas.List.{take_at, take-append-le, reverse-reverse}
use Rattle.automata.specs.Sheets.{Written, core_form}
use Rattle.automata.specs.Steps.{Config, Progressed, finished, running, no_room, advance, started, after, untils_below}
use Rattle.automata.specs.declared.items.Item.{Item}
use Rattle.automata.specs.declared.nodes.CoreNode.{CoreNode}
use Rattle.automata.proofs.Reached.{by_steps, one_end, Ended, Went, went}
use Rattle.coreform.specs.Forms.{form_at}
use Rattle.rules.specs.declared.node.Node.{Node}
use Rattle.rules.specs.declared.node.Place.{Place}
use Rattle.semantics.specs.Rules.{rule_at}
use Rattle.tableau.specs.Beginning.{begun, first_item, refused as unbegun, begun_at}
use Rattle.tableau.specs.Stepping.{Standing, Lists, lists, config, standing_at, room_of, advanced_by, Answer, refusal, progress, Written as WrittenOn, Steps, refused as unstepped, stepped}
use Rattle.verdict.specs.Logs.{BookLog, Phase, going, done, phase_at, Longer, TranslationLog, began, refused as still, stepped as called}

-- ---- lists
take_over : {X : Type 0} (made old : List X) → take (length made) (made ++ drop (length made) old) ≡ made
take_over made old = take_at made (drop (length made) old) (length made) refl

long_over : {X : Type 0} (made old : List X) → length made ≤ length (made ++ drop (length made) old)
long_over made old = omega (arith, length-append made (drop (length made) old))

-- ---- answers
abbrev Progresses : Answer → Type 0
Progresses (refusal f s) = ⊥
Progresses (progress p s) = Unit {0}

abbrev answer_of : Answer → Progressed
answer_of (refusal f s) = running
answer_of (progress p s) = p

abbrev numbers_of : Standing → Answer → Standing
numbers_of d (refusal f s) = d
numbers_of d (progress p s) = s

module _ (form : Written) where
  abbrev T : List CoreNode
  T = form.sheet

  abbrev root : ℕ
  root = form.root

  -- nothing is pending once it is done
  abbrev Over : Phase → Config → Type 0
  Over going c = Unit {0}
  Over done c = c.pending ≡ []

  pub record Stand (p : Phase) (s : Standing) (l : Lists) : Type 0 where
    pub time : ℕ
    pub sheet : take s.cores l.sheet ≡ T
    pub cores_are : s.cores ≡ length T
    pub sets_are : s.sets ≡ untils_below T (length T)
    pub is : config s l ≡ after T root time
    pub over : Over p (after T root time)
    pub long_sheet : s.cores ≤ length l.sheet
    pub long_states : s.states ≤ length l.states
    pub long_arcs : s.arcs ≤ length l.arcs
    pub long_pending : s.pending ≤ length l.pending

  -- the lists as a config is written on them
  written : (s : Standing) (k : Config) (before now : Lists) → WrittenOn k before now → config (standing_at s k) now ≡ k
  written s k before now w = λ i. record {
    steps = k.steps;
    states = (ap (take (length k.states)) w.states ∙ take_over k.states before.states) i;
    arcs = (ap (take (length k.arcs)) w.arcs ∙ take_over k.arcs before.arcs) i;
    pending = (ap reverse w.pending ∙ reverse-reverse k.pending) i;
  }

  stands_longer : {p : Phase} {s : Standing} {l l' : Lists} → Longer l l' → Stand p s l → Stand p s l'
  stands_longer {p} {s} {l} {l'} x st = record {
    time = st.time;
    sheet = ap (take s.cores) x.sheet ∙ take-append-le s.cores l.sheet x.more.sheet st.long_sheet ∙ st.sheet;
    cores_are = st.cores_are;
    sets_are = st.sets_are;
    is = same ∙ st.is;
    over = st.over;
    long_sheet = omega (arith, st.long_sheet, ap length x.sheet, length-append l.sheet x.more.sheet);
    long_states = omega (arith, st.long_states, ap length x.states, length-append l.states x.more.states);
    long_arcs = omega (arith, st.long_arcs, ap length x.arcs, length-append l.arcs x.more.arcs);
    long_pending = omega (arith, st.long_pending, ap length x.pending, length-append l.pending x.more.pending);
  }
    where
      same : config s l' ≡ config s l
      same = λ i. record {
        steps = s.steps;
        states = (ap (take s.states) x.states ∙ take-append-le s.states l.states x.more.states st.long_states) i;
        arcs = (ap (take s.arcs) x.arcs ∙ take-append-le s.arcs l.arcs x.more.arcs st.long_arcs) i;
        pending = reverse ((ap (take s.pending) x.pending ∙ take-append-le s.pending l.pending x.more.pending st.long_pending) i);
      }

  over_from : (a : Progressed) (c : Config) → Ended T root a c → Over (phase_at a) c
  over_from finished c e = e
  over_from running c e = tt
  over_from (no_room l) c e = tt

  stands_written : (s : Standing) (l l' : Lists) (n : ℕ) → Stand going s l → WrittenOn (advanced_by n s l).config l l'
      → Stand (phase_at (advanced_by n s l).answer) (standing_at s (advanced_by n s l).config) l'
  stands_written s l l' n st w = record {
    time = g.time;
    sheet = ap (take s.cores) w.sheet ∙ st.sheet;
    cores_are = st.cores_are;
    sets_are = st.sets_are;
    is = written s k l l' w ∙ k_is;
    over = subst (Over (phase_at (advanced_by n s l).answer)) k_is (over_from (advanced_by n s l).answer k (subst (λ a. Ended T root a.answer a.config) (sym on_T) g.ended));
    long_sheet = subst (λ x. s.cores ≤ length x) (sym w.sheet) st.long_sheet;
    long_states = subst (λ x. length k.states ≤ length x) (sym w.states) (long_over k.states l.states);
    long_arcs = subst (λ x. length k.arcs ≤ length x) (sym w.arcs) (long_over k.arcs l.arcs);
    long_pending = omega (arith, length-take (length k.pending) l'.pending, ap length w.pending, length-reverse k.pending);
  }
    where
      k : Config
      k = (advanced_by n s l).config

      on_T : advanced_by n s l ≡ advance T (room_of l) n (config s l)
      on_T = ap (λ t. advance t (room_of l) n (config s l)) st.sheet

      g : Went T root (advance T (room_of l) n (config s l))
      g = went T root (room_of l) n (config s l) st.time st.is

      k_is : k ≡ after T root g.time
      k_is = ap (λ a. a.config) on_T ∙ g.is

  stands_stepped : {s s' : Standing} {l l' : Lists} {n : ℕ} {a : Progressed} → Steps s l n (progress a s') l' → Stand going s l → Stand (phase_at a) s' l'
  stands_stepped {s} {s'} {l} {l'} {n} {a} (unstepped fault x e z) st = absurd (subst Progresses e tt)
  stands_stepped {s} {s'} {l} {l'} {n} {a} (stepped x e w) st =
      let answers : a ≡ (advanced_by n s l).answer = ap answer_of e in
      let numbers : s' ≡ standing_at s (advanced_by n s l).config = ap (numbers_of s') e in
      subst (λ b. Stand (phase_at b) s' l') (sym answers) (subst (λ t. Stand (phase_at (advanced_by n s l).answer) t l') (sym numbers) (stands_written s l l' n st w))

  at_start : after T root 0 ≡ started root
  at_start = unfold after in refl

  stands_begun : (sheet sheet' : List CoreNode) (pending pending' : List Item) (l : Lists) → sheet' ≡ T ++ drop (length T) sheet → pending' ≡ first_item root ∷ drop 1 pending
      → l.sheet ≡ sheet' → l.pending ≡ pending' → Stand going (begun form) l
  stands_begun sheet sheet' pending pending' l es ep ls lp = record {
    time = 0;
    sheet = ap (take (length T)) (ls ∙ es) ∙ take_over T sheet;
    cores_are = refl;
    sets_are = refl;
    is = (λ i. record { steps = 0; states = []; arcs = []; pending = reverse (take 1 ((lp ∙ ep) i)) }) ∙ sym at_start;
    over = tt;
    long_sheet = subst (λ x. length T ≤ length x) (sym (ls ∙ es)) (long_over T sheet);
    long_states = omega arith;
    long_arcs = omega arith;
    long_pending = omega (arith, ap length (lp ∙ ep));
  }

-- ---- at each position of a log
module _ {book : List Node} {place : Place} where
  stands : {p : Phase} {s : Standing} {l : Lists} → TranslationLog book place p s l → Stand (form_at book place) p s l
  stands (began log (unbegun b e x y)) = absurd cc
  stands (began {sheet = sh} {sheet' = sh'} {pending = pe} {pending' = pe'} {numbers = s} {states = ss} {arcs = xs} log (begun_at b e x y)) =
      let same : s ≡ begun (form_at book place) = cc in
      subst (λ t. Stand (form_at book place) going t (lists sh' ss xs pe')) (sym same) (stands_begun (form_at book place) sh sh' pe pe' (lists sh' ss xs pe') x y refl refl)
  stands (still log call) = stands log
  stands (called {numbers' = s'} {after = l'} log longer call e) = subst (λ p. Stand (form_at book place) p s' l') (sym e) (stands_stepped (form_at book place) call (stands_longer (form_at book place) longer (stands log)))

  module _ {s : Standing} {l : Lists} (log : TranslationLog book place done s l) where
    st : Stand (form_at book place) done s l
    st = stands log

    counted : s.steps ≡ (after (form_at book place).sheet (form_at book place).root st.time).steps
    counted = ap (λ c. c.steps) st.is

    pub listed_defined : (config s l ≡ after (form_at book place).sheet (form_at book place).root s.steps) × ((after (form_at book place).sheet (form_at book place).root s.steps).pending ≡ [])
    listed_defined =
        let e : after (form_at book place).sheet (form_at book place).root s.steps ≡ after (form_at book place).sheet (form_at book place).root st.time = ap (after (form_at book place).sheet (form_at book place).root) counted ∙ by_steps (form_at book place).sheet (form_at book place).root st.time in
        (st.is ∙ sym e, subst (λ c. c.pending ≡ []) (sym e) st.over)

-- the numbers are those of the config
recount : (form : Written) (p : Phase) (s : Standing) (l : Lists) → Stand form p s l → s ≡ standing_at (begun form) (config s l)
recount form p s l st = λ i. record {
  cores = st.cores_are i;
  sets = st.sets_are i;
  steps = s.steps;
  states = taken s.states l.states st.long_states i;
  arcs = taken s.arcs l.arcs st.long_arcs i;
  pending = (taken s.pending l.pending st.long_pending ∙ sym (length-reverse (take s.pending l.pending))) i;
}
  where
    taken : {X : Type 0} (n : ℕ) (xs : List X) → n ≤ length xs → n ≡ length (take n xs)
    taken n xs h = omega (arith, length-take n xs)

pub listed_alike : {book book' : List Node} {place place' : Place} {s s' : Standing} {l l' : Lists} → rule_at book place.index ≡ rule_at book' place'.index
    → TranslationLog book place done s l → TranslationLog book' place' done s' l' → (s ≡ s') × (config s l ≡ config s' l')
listed_alike {book} {book'} {place} {place'} {s} {s'} {l} {l'} e log log' =
    let a = stands log in
    let b : Stand (form_at book place) done s' l' = subst (λ r. Stand (core_form r) done s' l') (sym e) (stands log') in
    let F = form_at book place in
    let same : config s l ≡ config s' l' = a.is ∙ one_end F.sheet F.root a.time b.time a.over b.over ∙ sym b.is in
    (recount F done s l a ∙ ap (standing_at (begun F)) same ∙ sym (recount F done s' l' b), same)

-- the book of a translation's log is sound
pub translation_book : {book : List Node} {place : Place} {p : Phase} {s : Standing} {l : Lists} → TranslationLog book place p s l → BookLog book
translation_book (began log call) = log
translation_book (still log call) = translation_book log
translation_book (called log longer call e) = translation_book log

-- a finished translation has the numbers of the config in which the defined steps end
pub numbers_at : {book : List Node} {place : Place} {s : Standing} {l : Lists} (n : ℕ) → (after (form_at book place).sheet (form_at book place).root n).pending ≡ []
    → TranslationLog book place done s l → s ≡ standing_at (begun (form_at book place)) (after (form_at book place).sheet (form_at book place).root n)
numbers_at {book} {place} {s} {l} n ends log =
    let F = form_at book place in
    let a = stands log in
    recount F done s l a ∙ ap (standing_at (begun F)) (a.is ∙ one_end F.sheet F.root a.time n a.over ends)
