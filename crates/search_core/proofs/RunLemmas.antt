-- Lists of events from a new core on, and what a core has when nothing is left to do.
use Rattle.std.proofs.Common.{◌≡◌, ℕ, zero, suc, ◌-◌, ◌≤◌, List, [], ◌∷◌, ◌++◌, map, replicate, Bool, true, false, Result, Ok, Err, Option, Some, None, inl, inr, refl, sym, subst, ap, ◌∙◌, arith}
use Rattle.std.specs.List.{concat, flat_map}
use Rattle.std.specs.Option.{option_to_list}
use Rattle.std.specs.Prelude.{IsSome}
use Rattle.std.proofs.lemmas.List.{length-replicate}
use Rattle.res_base.specs.declared.memory.OutOfMemory.{OutOfMemory}
use Rattle.res_base.specs.Lists.{Each, Member, total}
use Rattle.res_base.proofs.ListLemmas.{each_in, member_right}
use Rattle.res_base.proofs.SumLemmas.{pos_cases}
use Rattle.box_split.specs.Boxes.{lows}
use Rattle.box_split.specs.Paths.{box_of, covers}
use Rattle.box_split.proofs.LawLemmas.{some_box}
use Rattle.box_split.proofs.PathLemmas.{path_box, lows_choice}
use Rattle.box_split.proofs.PrefixLemmas.{counted, lows_held}
use Rattle.search_api.specs.declared.outcome.Closed.{Closed}
use Rattle.search_api.specs.Meaning.{Meaning, IsLawful}
use Rattle.search_api.specs.Accounts.{IsBest, OpenAbove}
use Rattle.search_core.specs.declared.event.Event.{Event}
use Rattle.search_core.specs.declared.event.Event.TheVariants as event
use Rattle.search_core.specs.declared.state.Hand.{Hand}
use Rattle.search_core.specs.declared.state.Core.{Core}
use Rattle.search_core.specs.Events.{Answers, Tells, Cuts, IsIdle, Step, empty_hand, opening}
use Rattle.search_core.specs.Fits.{Fits, NoneTwice, times, IsSeen, IsWord, entries, owed}
use Rattle.search_core.specs.Runs.{CutsByKept, Goes, IsAccount, IsFinished, Runs}
use Rattle.search_core.proofs.ChangeLemmas.{each_get, each_member, member_times, times_weight}
use Rattle.search_core.proofs.EntryLemmas.{entries_first, entries_moved, in_hand, weigh}
use Rattle.search_core.proofs.RankLemmas.{no_ranks, ranks_same}
use Rattle.search_core.proofs.FitLemmas.{pop_fits, steal_fits, see_fits, cut_fits, bad_fits, split_fits, keep_fits, offer_fits}

total_alike : {X : Type 0} (f : X → ℕ) (x : X) (n : ℕ) → f x ≡ 0 → total f (replicate n x) ≡ 0
total_alike f x zero e = refl
total_alike f x (suc n) e = omega (arith, e, total_alike f x n e)

pub each_alike : {X : Type 0} (P : X → Type 0) (x : X) (n : ℕ) → P x → Each P (replicate n x)
each_alike P x zero p = tt
each_alike P x (suc n) p = (p, each_alike P x n p)

none_owed : (n : ℕ) → owed (replicate n empty_hand) ≡ []
none_owed zero = refl
none_owed (suc n) = none_owed n

total_none : {X : Type 0} (f : X → ℕ) (P : X → Type 0) (xs : List X) → ((x : X) → P x → f x ≡ 0) → Each P xs → total f xs ≡ 0
total_none f P [] z h = refl
total_none f P (x ∷ xs) z h = omega (arith, z x h.0, total_none f P xs z h.1)

idle_owe : (hands : List Hand) → Each IsIdle hands → owed hands ≡ []
idle_owe [] h = refl
idle_owe (x ∷ xs) h = ap (λ (o : Option ℕ). option_to_list o ++ owed xs) h.0.1 ∙ idle_owe xs h.1

path_in : (e : Closed) (closed : List Closed) → Member e closed → Member e.path (map (λ (x : Closed). x.path) closed)
path_in e [] i = absurd i
path_in e (x ∷ xs) i = elim i [ inl s ↦ inl (ap (λ (y : Closed). y.path) s) | inr k ↦ inr (path_in e xs k) ]

closed_in : (c : Core) (e : Closed) → Member e c.closed → Member e.path (entries c)
closed_in c e i =
    let mine = map (λ (x : Closed). x.path) c.closed in
    let hands = flat_map (λ (k : Hand). option_to_list k.path) c.hands in
    member_right e.path (concat c.deques) (hands ++ mine) (member_right e.path hands mine (path_in e c.closed i))

all_none : (xs : List ℕ) → ((r : ℕ) → Member r xs → ⊥) → xs ≡ []
all_none [] h = refl
all_none (x ∷ xs) h = absurd (h x (inl refl))

best_of : (kept : List ℕ) (word : Option ℕ) → IsWord kept [] word → IsBest kept word
best_of kept None h = all_none kept (λ r i. h r (i, (λ x. x)))
best_of kept (Some w) h = (h.0.0, each_member (λ k. w ≤ k) kept (λ r i. h.1 r (i, (λ x. x))))

module _ (m : Meaning) where
  pub opening_fits : (n : ℕ) → 1 ≤ n → Fits m (opening n)
  opening_fits n some =
      let c = opening n in
      let a = entries_moved m (1 ∷ []) (entries c) (λ h. omega (arith, weigh h c, total_alike (λ (d : List ℕ). total h d) [] (n - 1) refl, total_alike (in_hand h) empty_hand n refl)) (entries_first m) in
      let r = ranks_same [] [] (owed c.hands) None no_ranks (none_owed n) in
      record {
        workers = omega (arith, length-replicate n empty_hand, length-replicate {A = List ℕ} (n - 1) []);
        cover = a.cover;
        paths = a.are_paths;
        owing = each_alike (λ (h : Hand). IsSome h.owed → h.path ≡ None) empty_hand n (λ s. refl);
        owed_kept = r.owed_kept;
        owed_once = r.owed_once;
        word = r.word_is;
        seen = each_alike (λ (h : Hand). IsSeen [] None h.seen) empty_hand n tt;
        closed = tt;
        legal = tt;
        kept_once = r.kept_once;
        leaves = tt;
        open_above = a.open_above;
      }

  -- the same of its parts
  pub opened : (n : ℕ) → 1 ≤ n → (ds : List (List ℕ)) (hs : List Hand) (ks : List ℕ) (es : List Closed) → ds ≡ (1 ∷ []) ∷ replicate (n - 1) [] → hs ≡ replicate n empty_hand → ks ≡ [] → es ≡ [] → Fits m (record { deques = ds; hands = hs; word = None; kept = ks; closed = es })
  opened n some ds hs ks es d h k e =
      subst (λ (x : List (List ℕ)). Fits m (record { deques = x; hands = hs; word = None; kept = ks; closed = es })) (sym d)
      (subst (λ (x : List Hand). Fits m (record { deques = (1 ∷ []) ∷ replicate (n - 1) []; hands = x; word = None; kept = ks; closed = es })) (sym h)
      (subst (λ (x : List ℕ). Fits m (record { deques = (1 ∷ []) ∷ replicate (n - 1) []; hands = replicate n empty_hand; word = None; kept = x; closed = es })) (sym k)
      (subst (λ (x : List Closed). Fits m (record { deques = (1 ∷ []) ∷ replicate (n - 1) []; hands = replicate n empty_hand; word = None; kept = []; closed = x })) (sym e) (opening_fits n some))))

  pub step_fits : IsLawful m → (c new : Core) (e : Event) → Step m c e new → Fits m c → Fits m new
  step_fits lawful c new (event.Pop w) s f = pop_fits m c new w s f
  step_fits lawful c new (event.Steal w from) s f = steal_fits m c new w from s f
  step_fits lawful c new (event.Split w) s f = split_fits m lawful c new w s f
  step_fits lawful c new (event.CloseBad w) s f = bad_fits m lawful c new w s f
  step_fits lawful c new (event.Cut w) s f = cut_fits m lawful c new w s f
  step_fits lawful c new (event.Keep w) s f = keep_fits m lawful c new w s f
  step_fits lawful c new (event.Offer w) s f = offer_fits m c new w s f
  step_fits lawful c new (event.See w) s f = see_fits m c new w s f

  goes_fits : IsLawful m → (c new : Core) (e : Event) → Goes m c e new → Fits m c → Fits m new
  goes_fits lawful c new e g f = elim g [ inl s ↦ step_fits lawful c new e s f | inr s ↦ subst (Fits m) (sym s) f ]

  pub run_fits : IsLawful m → (events : List Event) (c end : Core) → Runs m c events end → Fits m c → Fits m end
  run_fits lawful [] c end r f = subst (Fits m) (sym r) f
  run_fits lawful (e ∷ es) c end r f = run_fits lawful es r.0 end r.2 (goes_fits lawful c r.0 e r.1 f)

  -- whatever a step answers, its core fits
  tell_fits : IsLawful m → (c new : Core) (e : Event) (b : Bool) → Tells (Step m c e) c new b → Fits m c → Fits m new
  tell_fits lawful c new e true s f = step_fits lawful c new e s f
  tell_fits lawful c new e false s f = subst (Fits m) (sym s.0) f

  pub answer_fits : IsLawful m → (c new : Core) (e : Event) (r : Result Bool OutOfMemory) → Answers (Step m c e) c new r → Fits m c → Fits m new
  answer_fits lawful c new e (Ok b) s f = tell_fits lawful c new e b s f
  answer_fits lawful c new e (Err x) s f = subst (Fits m) (sym s) f

  -- no path stands in two places: its lowest choice would be covered twice
  pub stands_once : IsLawful m → (c : Core) → Fits m c → NoneTwice (entries c)
  stands_once lawful c f path = elim (pos_cases (times path (entries c))) [
    | inl p ↦
        let b = some_box (box_of m.shape path) (each_in (λ q. IsSome (box_of m.shape q)) path (entries c) f.paths (member_times path (entries c) p)) in
        let is = path_box m.shape path b.0 lawful.is_shape.positions b.1 in
        let choice = lows b.0 in
        let g : ℕ → ℕ = λ q. covers m.shape q choice in
        omega (arith, times_weight g path (entries c) (counted m.shape choice path b.0 b.1 (lows_held m.shape b.0 is)), f.cover choice (lows_choice m.shape b.0 is))
    | inr z ↦ omega (arith, z)
  ]

  pub cut_kept : (c new : Core) (w : ℕ) → Fits m c → Cuts m c w new → CutsByKept c w new
  cut_kept c new w f p =
      let saw : IsSeen c.kept c.word (Some p.rank) = subst (IsSeen c.kept c.word) p.saw (each_get (λ (x : Hand). IsSeen c.kept c.word x.seen) c.hands w p.hand f.seen p.holds.has_hand) in
      record { path = p.path; rank = p.rank; was_kept = saw.0; closed = ap (λ (x : Core). x.closed) p.new_is }

  pub finished : (c : Core) → Fits m c → IsFinished c → IsAccount m c.word c.kept c.closed
  finished c f z = record {
    cover = λ choice i.
        let g : ℕ → ℕ = λ p. covers m.shape p choice in
        omega (
          arith,
          f.cover choice i,
          weigh g c,
          total_none (λ (d : List ℕ). total g d) (λ (d : List ℕ). d ≡ []) c.deques (λ d e. ap (total g) e) z.deques,
          total_none (in_hand g) IsIdle c.hands (λ k h. ap (λ (o : Option ℕ). total g (option_to_list o)) h.0) z.hands,
        );
    entries = f.closed;
    legal = f.legal;
    best_is = best_of c.kept c.word (subst (λ ds. IsWord c.kept ds c.word) (idle_owe c.hands z.hands) f.word);
    open_above = each_member (λ (e : Closed). OpenAbove m e.path) c.closed (λ e i. each_in (OpenAbove m) e.path (entries c) f.open_above (closed_in c e i));
  }
