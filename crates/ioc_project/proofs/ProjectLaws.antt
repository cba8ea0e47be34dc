-- What every project that was read keeps.
use Rattle.std.proofs.Common.{◌≡◌, ℕ, ◌+◌, ◌<◌, ◌≤◌, ◌^◌, ◌&&◌, ◌||◌, List, [], ◌∷◌, ◌++◌, inl, inr, length, Bool, true, false, not, eqb, cond, Option, Some, None, Result, Ok, Err, refl, ap, subst, ◌∙◌, arith}
use Rattle.std.specs.Prelude.{nat_lt, nat_le, IsTrue, IfOk, IfSome, is_some, find, codes}
use Rattle.std.specs.List.{list_any}
use Rattle.std.specs.Str.{bytes_eq}
use Rattle.std.proofs.lemmas.Bool.Decides.{nat_tests}
use Rattle.std.proofs.lemmas.List.Quantifiers.{position-Some}
use Rattle.std.proofs.lemmas.Slice.Eq.{bytes_eq-Decides}
use Rattle.res_base.specs.Lists.{Each}
use Rattle.res_base.proofs.ListLemmas.{each_push}
use Rattle.res_base.proofs.SumLemmas.{bool_cases}
use Rattle.ioc_text.specs.Lines.{line_at}
use Rattle.res_model.specs.Numbers.{number_of, number_up_to}
use Rattle.refusal.specs.Refusals.{Gives}
use Rattle.ioc_project.specs.Read.{IsRead}
use Rattle.res_model.specs.Placed.{is_held, rows_named, rows_placed, HasRowAt, IsPlaced}
use Rattle.res_model.specs.Signals.{signal_named}
use Rattle.ioc_project.specs.Project.{place_of, place_for, known_pin, free_place, is_taken, known_signal, signal_given, name_given, is_misplaced, candidate, signal_of, with_pin, is_virtual, signals_after, known_need, need_of, needs_from, few, hertz_of, value_or, well_formed, hse_of, homes_of, in_domains, domain_tests, all_within, fixes_clock, fixes_signals, part_of, kept_of, pin_lines, marks_of, pin_line_at, truth_of, pull_of, speed_of, project_of, capped}
use Rattle.res_model.specs.Steps.{◌>>=◌}
use Rattle.res_model.specs.declared.opts.Opts.{Opts}
use Rattle.refusal.specs.declared.refusal.Refusal.{Refusal}
use Rattle.ioc_project.specs.declared.fault.ProjectFault.{ProjectFault}
use Rattle.ioc_project.specs.declared.fault.ProjectFault.TheVariants.{BadValue, NotCandidate, UnknownNeed, TooMany}
use Rattle.ioc_text.specs.declared.line.Line.{Line}
use Rattle.res_model.specs.declared.project.Project.{Project}
use Rattle.res_model.specs.declared.project.Pull.TheVariants.{None as NoPull}
use Rattle.res_model.specs.declared.project.Signal.{Signal}
use Rattle.res_model.specs.declared.project.Speed.TheVariants.{Low}
use Rattle.res_model.specs.declared.table.Pin.{Pin}
use Rattle.res_model.specs.declared.table.PinUse.{PinUse}
use Rattle.res_model.specs.declared.table.TableParts.{TableParts}
use Rattle.res_model.specs.declared.table.TableSignal.{TableSignal}

-- where two steps succeed, each does
pub both : {A B E : Type 0} (r : Result A E) (f : A → Result B E) (y : B) → (r >>= f) ≡ Ok y → (x : A) × (r ≡ Ok x) × (f x ≡ Ok y)
both (Ok x) f y e = (x, refl, e)
both (Err err) f y e = absurd cc

ok_is : {A : Type 0} (x y : A) → (let r : Result A ProjectFault = Ok x in r) ≡ Ok y → x ≡ y
ok_is x y e = cc

place_in : (t : TableParts) (name : List ℕ) (place : ℕ) → place_of t name ≡ Some place → place < length t.pins
unfolding place_of
place_in t name place e = (position-Some (λ (p : Pin). bytes_eq p.name name) t.pins place (record { name = []; port = 0; number = 0 }) e).0

known_place : (n : ℕ) (found : Option ℕ) (place : ℕ) → known_pin n found ≡ Ok place → found ≡ Some place
known_place n None place e = absurd cc
known_place n (Some p) place e = ap Some (ok_is p place e)

free_is : (n : ℕ) (taken : Bool) (place home : ℕ) (fault : ProjectFault) → cond taken (Err fault) (Ok place) ≡ Ok home → place ≡ home
free_is n true place home fault e = absurd cc
free_is n false place home fault e = cc

home_within : (t : TableParts) (before : List Signal) (line : Line) (home : ℕ) → place_for t before line ≡ Ok home → home < length t.pins
unfolding place_for
home_within t before line home e =
    let steps = both (known_pin line.number (place_of t line.value)) (free_place line.number before) home e in
    let found = known_place line.number (place_of t line.value) steps.0 steps.1 in
    let same = free_is line.number (is_taken before steps.0) steps.0 home (BadValue line.number) steps.2 in
    subst (λ (n : ℕ). n < length t.pins) same (place_in t line.value steps.0 found)

find_passes : {X : Type 0} (p : X → Bool) (xs : List X) (x : X) → find p xs ≡ Some x → p x ≡ true
find_passes p [] x e = absurd cc
find_passes p (y ∷ ys) x e = elim (bool_cases (p y)) [
  | inl t ↦ let same : Some y ≡ Some x = rw t at e in let is : y ≡ x = cc in subst (λ z. p z ≡ true) is t
  | inr t ↦ let rest : find p ys ≡ Some x = rw t at e in find_passes p ys x rest
]

-- the table's signal of a name is that of its own name
named_itself : (t : TableParts) (name : List ℕ) (s : TableSignal) → signal_named t name ≡ Some s → signal_named t s.name ≡ Some s
unfolding signal_named
named_itself t name s e =
    let same : s.name ≡ name = (bytes_eq-Decides s.name name).0 (find_passes (λ (u : TableSignal). bytes_eq u.name name) t.signals s e) in
    ap (λ (n : List ℕ). find (λ (u : TableSignal). bytes_eq u.name n) t.signals) same ∙ e

abbrev IsOf : TableParts → Option (ℕ × TableSignal) → Type 0
IsOf t given = IfSome given (λ s. signal_named t s.1.name ≡ Some s.1)

known_is : (t : TableParts) (n : ℕ) (name : List ℕ) (found : Option TableSignal) (given : Option (ℕ × TableSignal)) → signal_named t name ≡ found → known_signal n found ≡ Ok given → IsOf t given
known_is t n name None given e k = absurd cc
known_is t n name (Some s) given e k = subst (IsOf t) (ok_is (Some (n, s)) given k) (named_itself t name s e)

given_is : (t : TableParts) (line : Option Line) (given : Option (ℕ × TableSignal)) → signal_given t line ≡ Ok given → IsOf t given
given_is t None given e = let none : Option (ℕ × TableSignal) = None in subst (IsOf t) (ok_is none given e) tt
given_is t (Some line) given e = known_is t line.number line.value (signal_named t line.value) given refl e

or_true : (b : Bool) → b || true ≡ true
or_true true = refl
or_true false = refl

named_given : (t : TableParts) (given : Option (ℕ × TableSignal)) → IsOf t given → IsTrue (is_held (name_given given) || is_some (signal_named t (name_given given)))
unfolding is_held
named_given t None h = refl
named_given t (Some s) h = rw h (or_true (is_held s.1.name))

no_fault : (b : Bool) (fault : ProjectFault) → (let r : Result (Unit {0}) ProjectFault = cond b (Err fault) (Ok tt) in r) ≡ Ok tt → b ≡ false
no_fault true fault e = absurd cc
no_fault false fault e = refl

placed_rows : (rows : List PinUse) (place : ℕ) → not (eqb (length rows) 0) && not (list_any (λ (u : PinUse). eqb u.pin place) rows) ≡ false → HasRowAt rows place
placed_rows rows place e = elim (bool_cases (eqb (length rows) 0)) [
  | inl z ↦ inl (grind (arith, nat_tests))
  | inr z ↦ elim (bool_cases (list_any (λ (u : PinUse). eqb u.pin place) rows)) [
    | inl y ↦ inr y
    | inr y ↦ let off : true ≡ false = rw (z, y) at e in absurd cc
  ]
]

stays_given : (t : TableParts) (locked : Bool) (place : ℕ) (given : Option (ℕ × TableSignal)) → IsOf t given → candidate locked place given ≡ Ok tt → locked ≡ true → HasRowAt (rows_placed t (name_given given)) place
unfolding is_held rows_placed rows_named is_misplaced
stays_given t locked place None h e l = inl refl
stays_given t locked place (Some s) h e l = elim (bool_cases (bytes_eq s.1.name (codes "-"))) [
  | inl held ↦ rw held (inl refl)
  | inr held ↦
      let free : locked && is_misplaced s.1 place ≡ false = no_fault (locked && is_misplaced s.1 place) (NotCandidate s.0) e in
      let apart : is_misplaced s.1 place ≡ false = rw l at free in
      rw (held, h) (placed_rows s.1.at place apart)
]

signal_placed : (t : TableParts) (ioc : List Line) (kept : Bool) (before : List Signal) (line : Line) (s : Signal) → signal_of t ioc kept before line ≡ Ok s → IsPlaced t s
unfolding signal_of
signal_placed t ioc kept before line s e =
    let s1 = both (place_for t before line) _ s e in
    let s2 = both (signal_given t (pin_line_at ioc line.value (codes ".Signal"))) _ s s1.2 in
    let s3 = both (value_or false truth_of (pin_line_at ioc line.value (codes ".Locked"))) _ s s2.2 in
    let s4 = both (value_or NoPull pull_of (pin_line_at ioc line.value (codes ".GPIO_PuPd"))) _ s s3.2 in
    let s5 = both (value_or Low speed_of (pin_line_at ioc line.value (codes ".GPIO_Speed"))) _ s s4.2 in
    let s6 = both (candidate (s3.0 || kept) s1.0 s2.0) _ s s5.2 in
    let of_table = given_is t (pin_line_at ioc line.value (codes ".Signal")) s2.0 s2.1 in
    subst (IsPlaced t) (ok_is _ s s6.2) record {
      named = named_given t s2.0 of_table;
      needed = λ n. let off : false ≡ true = n in absurd cc;
      at_home = λ n. home_within t before line s1.0 s1.1;
      stays = λ l. stays_given t (s3.0 || kept) s1.0 s2.0 of_table s6.1 l;
    }

pin_placed : (t : TableParts) (ioc : List Line) (kept : Bool) (before after : List Signal) (line : Line) → Each (IsPlaced t) before → with_pin t ioc kept before line ≡ Ok after → Each (IsPlaced t) after
unfolding with_pin
pin_placed t ioc kept before after line h e = elim (bool_cases (is_virtual line.value)) [
  | inl v ↦ let same : Ok before ≡ Ok after = rw v at e in subst (Each (IsPlaced t)) (ok_is before after same) h
  | inr v ↦
      let steps = both (signal_of t ioc kept before line) (λ (s : Signal). Ok (before ++ s ∷ [])) after (rw v at e) in
      subst (Each (IsPlaced t)) (ok_is (before ++ steps.0 ∷ []) after steps.2) (each_push (IsPlaced t) before steps.0 h (signal_placed t ioc kept before line steps.0 steps.1))
]

signals_placed : (t : TableParts) (ioc : List Line) (kept : Bool) (before after : List Signal) (lines : List Line) → Each (IsPlaced t) before → signals_after t ioc kept before lines ≡ Ok after → Each (IsPlaced t) after
signals_placed t ioc kept before after [] h e = subst (Each (IsPlaced t)) (ok_is before after e) h
signals_placed t ioc kept before after (line ∷ lines) h e =
    let steps = both (with_pin t ioc kept before line) (λ (found : List Signal). signals_after t ioc kept found lines) after e in
    signals_placed t ioc kept steps.0 after lines (pin_placed t ioc kept before steps.0 line h steps.1) steps.2

filled : (n : ℕ) → eqb n 0 ≡ false → 0 < n
filled n e = grind (arith, nat_tests)

need_placed : (t : TableParts) (n : ℕ) (name : List ℕ) (found : Option TableSignal) (s : Signal) → signal_named t name ≡ found → known_need n found ≡ Ok s → IsPlaced t s
unfolding rows_named
need_placed t n name None s e k = absurd cc
need_placed t n name (Some u) s e k =
    let itself = named_itself t name u e in
    elim (bool_cases (eqb (length u.at) 0)) [
      | inl z ↦
          let refused : Err (UnknownNeed (capped n)) ≡ Ok s = rw z at k in
          absurd cc
      | inr z ↦
          let taken = rw z at k in
          subst (IsPlaced t) (ok_is (record { name = u.name; home = None; locked = false; need = true; pull = NoPull; speed = Low }) s taken) record {
            named = rw itself (or_true (is_held u.name));
            needed = λ n. (refl, rw itself (filled (length u.at) z));
            at_home = λ n. let off : true ≡ false = n in absurd cc;
            stays = λ l. let off : false ≡ true = l in absurd cc;
          }
    ]

needs_placed : (t : TableParts) (n : ℕ) (names : List (List ℕ)) (needs : List Signal) → needs_from t n names ≡ Ok needs → Each (IsPlaced t) needs
unfolding need_of
needs_placed t n [] needs e = subst (Each (IsPlaced t)) (ok_is [] needs e) tt
needs_placed t n (name ∷ names) needs e =
    let one = both (need_of t n name) _ needs e in
    let more = both (needs_from t (n + 1) names) _ needs one.2 in
    subst (Each (IsPlaced t)) (ok_is (one.0 ∷ more.0) needs more.2) (need_placed t n name (signal_named t name) one.0 refl one.1, needs_placed t (n + 1) names more.0 more.1)

each_both : {X : Type 0} (P : X → Type 0) (xs ys : List X) → Each P xs → Each P ys → Each P (xs ++ ys)
each_both P [] ys h k = k
each_both P (x ∷ xs) ys h k = (h.0, each_both P xs ys h.1 k)

few_are : (signals all : List Signal) → few signals ≡ Ok all → (signals ≡ all) × (length signals ≤ 160)
unfolding few
few_are signals all e = elim (bool_cases (nat_lt 160 (length signals))) [
  | inl m ↦ let refused : Err (TooMany (capped (length signals))) ≡ Ok all = rw m at e in absurd cc
  | inr m ↦ let taken : Ok signals ≡ Ok all = rw m at e in (ok_is signals all taken, grind (arith, nat_tests))
]

number_within : (most : ℕ) (text : List ℕ) (n : ℕ) → number_up_to most text ≡ Some n → n ≤ most
unfolding number_up_to
number_within most text n e = go (number_of text) e where
  go : (found : Option ℕ) → elim found as (λ (o : Option ℕ). Option ℕ) [ None ↦ None | Some m ↦ cond (nat_le m most) (Some m) None ] ≡ Some n → n ≤ most
  go None h = absurd cc
  go (Some m) h = elim (bool_cases (nat_le m most)) [
    | inl y ↦ let same : Some m ≡ Some n = rw y at h in let is : m ≡ n = cc in subst (λ (k : ℕ). k ≤ most) is (grind (arith, nat_tests))
    | inr y ↦ let none : (let o : Option ℕ = None in o) ≡ Some n = rw y at h in absurd cc
  ]

formed_is : {X : Type 0} (n : ℕ) (found : Option X) (x : X) → well_formed n found ≡ Ok x → found ≡ Some x
formed_is n None x e = absurd cc
formed_is n (Some y) x e = ap Some (ok_is y x e)

hertz_within : (absent : ℕ) (line : Option Line) (hertz : ℕ) → value_or absent hertz_of line ≡ Ok hertz → absent < 2 ^ 32 → hertz < 2 ^ 32
unfolding hertz_of
hertz_within absent None hertz e h = subst (λ (n : ℕ). n < 2 ^ 32) (ok_is absent hertz e) h
hertz_within absent (Some line) hertz e h =
    let most = number_within 4294967295 line.value hertz (formed_is line.number (number_up_to 4294967295 line.value) hertz e) in
    omega (arith, most)

within_where_fixed : (fixed : Bool) (found : Result (Unit {0}) ProjectFault) → (let r : Result (Unit {0}) ProjectFault = cond fixed found (Ok tt) in r) ≡ Ok tt → fixed ≡ true → found ≡ Ok tt
within_where_fixed true found e h = e
within_where_fixed false found e h = absurd cc

-- a project that was read keeps all this
pub read_keeps : (t : TableParts) (ioc : List Line) (opts : Opts) (clocks : Bool) (p : Project) → project_of t ioc opts clocks ≡ Ok p → IsRead t opts clocks p
unfolding project_of in_domains hse_of
read_keeps t ioc opts clocks p e =
    let s1 = both (part_of t ioc) _ p e in
    let s2 = both (kept_of ioc) _ p s1.2 in
    let s3 = both (signals_after t ioc (s2.0 || fixes_signals opts.free) [] (pin_lines ioc)) _ p s2.2 in
    let s4 = both (needs_from t 1 opts.needs) _ p s3.2 in
    let s5 = both (few (s3.0 ++ s4.0)) _ p s4.2 in
    let s6 = both (value_or t.hse_hz hertz_of (line_at ioc (codes "RCC.HSE_VALUE"))) _ p s5.2 in
    let s7 = both (homes_of t ioc) _ p s6.2 in
    let s8 = both (in_domains t (clocks && fixes_clock opts.free) s7.0) _ p s7.2 in
    let all = few_are (s3.0 ++ s4.0) s5.0 s5.1 in
    let signals = signals_placed t ioc (s2.0 || fixes_signals opts.free) [] s3.0 (pin_lines ioc) tt s3.1 in
    let needs = needs_placed t 1 opts.needs s4.0 s4.1 in
    subst (IsRead t opts clocks) (ok_is (record { signals = s5.0; clock = s7.0; hse_hz = s6.0; marks = marks_of t ioc (pin_lines ioc) }) p s8.2) record {
      few = subst (λ (ss : List Signal). length ss ≤ 160) all.0 all.1;
      placed = subst (Each (IsPlaced t)) all.0 (each_both (IsPlaced t) s3.0 s4.0 signals needs);
      hertz = λ h. hertz_within t.hse_hz (line_at ioc (codes "RCC.HSE_VALUE")) s6.0 s6.1 h;
      clock_within = λ h. within_where_fixed (clocks && fixes_clock opts.free) (all_within (domain_tests t.clock) s7.0) s8.1 h;
    }

-- the same of what a reader answers
pub answer_keeps : (t : TableParts) (ioc : List Line) (opts : Opts) (clocks : Bool) (answer : Result Project (Refusal ProjectFault))
    → Gives (λ p. p) answer (project_of t ioc opts clocks) → IfOk answer (λ p. IsRead t opts clocks p)
answer_keeps t ioc opts clocks (Ok p) g = read_keeps t ioc opts clocks p g
answer_keeps t ioc opts clocks (Err fault) g = tt
