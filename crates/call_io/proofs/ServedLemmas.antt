-- An answer to inputs that were read, or of which one could not be read, is one that a call answers for.
use Rattle.std.proofs.Common.{◌≡◌, ◌≢◌, ◌∙◌, Result, Ok, Err, ℕ, ◌<◌, ◌≤◌, ◌⊎◌, inl, inr, List, [], ◌∷◌, ◌++◌, length, map, Option, Some, None, refl, sym, ap, subst, arith}
use Rattle.std.specs.Prelude.{IfOk, IfSome, nat_lt, if◌then◌else◌, codes}
use Rattle.std.proofs.lemmas.Bool.Decides.{nat_tests}
use Rattle.answers.specs.Said.{Says, number_of}
use Rattle.answers.specs.declared.answer.Answer.{Answer}
use Rattle.answers.specs.declared.answer.Status.{Status}
use Rattle.answers.specs.declared.answer.Status.TheVariants.{Done, NoChoice, Usage, ReadFailed, TooLong, TableRefused, ProjectRefused, TooWide, WriteFailed, OutOfMemory, ProofRefused, WriteBackRefused, RequestRefused, CTextRefused, AnswersRefused, TraceTooLong}
use Rattle.call_io.specs.Gathered.{AllRead, AreSeen, IsClear, IsOfInputs, Stopped, Unread, failed, long}
use Rattle.call_io.specs.Inputs.{Files, Input, Reads, Wrote, first_long, inputs_told, with_input}
use Rattle.call_io.specs.Ran.{Answers, Ended, NoneFailed, IsOwn, IsWritten, Ran, Served, WroteText, answered as answered_by, part, starved, whole}
use Rattle.res_base.specs.Lists.{Member}
use Rattle.res_base.proofs.ListLemmas.{member_right}
use Rattle.res_io.specs.Bytes.{IsLonger, IsOverLimit, IsWithinLimit, Tells, file_of}

abbrev bytes_of : List Input → List (List ℕ)
bytes_of inputs = map (λ (i : Input). i.bytes) inputs

not_long : (n : ℕ) (x y : Option (List ℕ)) → n ≤ 67108864 → (if nat_lt 67108864 n then x else y) ≡ y
not_long n x y l = grind (arith, nat_tests, l)

is_long : (n : ℕ) (x y : Option (List ℕ)) → 67108864 < n → (if nat_lt 67108864 n then x else y) ≡ x
is_long n x y l = grind (arith, nat_tests, l)

with_more : (name bytes : List ℕ) (file : Option (List ℕ)) (rest : Option (List Input)) (read : List (List ℕ)) → Tells file bytes → length bytes ≤ 67108864 → IfSome rest (AreSeen read) → IfSome (with_input name file rest) (AreSeen (bytes ∷ read))
with_more name bytes None rest read t l h = tt
with_more name bytes (Some all) None read t l h = tt
with_more name bytes (Some all) (Some more) read t l h =
    record {
      bytes = ap (λ (b : List ℕ). b ∷ bytes_of more) (sym t) ∙ ap (λ (bs : List (List ℕ)). bytes ∷ bs) h.bytes;
      none_long = not_long (length all) (Some name) (first_long more) (subst (λ (b : List ℕ). length b ≤ 67108864) t l) ∙ h.none_long;
    }

-- inputs that were read are those that are told, and none is too long
pub inputs_are : (files : Files) (names read : List (List ℕ)) → AllRead files names read → IfSome (inputs_told files names) (AreSeen read)
inputs_are files [] [] h = record { bytes = refl; none_long = refl }
inputs_are files [] (bytes ∷ read) h = absurd h
inputs_are files (name ∷ names) [] h = absurd h
inputs_are files (name ∷ names) (bytes ∷ read) h = with_more name bytes (file_of files name) (inputs_told files names) read h.0.told h.0.few (inputs_are files names read h.1)

-- the input of this name is the first that is too long
abbrev IsFirst : List ℕ → List Input → Type 0
IsFirst name inputs = first_long inputs ≡ Some name

past_it : (name bytes first : List ℕ) (file : Option (List ℕ)) (rest : Option (List Input)) → Tells file bytes → length bytes ≤ 67108864 → IfSome rest (IsFirst first) → IfSome (with_input name file rest) (IsFirst first)
past_it name bytes first None rest t l h = tt
past_it name bytes first (Some all) None t l h = tt
past_it name bytes first (Some all) (Some more) t l h = not_long (length all) (Some name) (first_long more) (subst (λ (b : List ℕ). length b ≤ 67108864) t l) ∙ h

at_it : (name : List ℕ) (file : Option (List ℕ)) (rest : Option (List Input)) → IsLonger file → IfSome (with_input name file rest) (IsFirst name)
at_it name None rest longer = tt
at_it name (Some all) None longer = tt
at_it name (Some all) (Some more) longer = is_long (length all) (Some name) (first_long more) longer

first_is : (files : Files) (earlier read : List (List ℕ)) (name : List ℕ) (later : List (List ℕ)) → AllRead files earlier read → IsLonger (file_of files name) → IfSome (inputs_told files (earlier ++ name ∷ later)) (IsFirst name)
first_is files [] read name later h longer = at_it name (file_of files name) (inputs_told files later) longer
first_is files (n ∷ ns) [] name later h longer = absurd h
first_is files (n ∷ ns) (bytes ∷ read) name later h longer = past_it n bytes name (file_of files n) (inputs_told files (ns ++ name ∷ later)) h.0.told h.0.few (first_is files ns read name later h.1 longer)

weaker : {X : Type 0} (P Q : X → Type 0) (o : Option X) → ((x : X) → P x → Q x) → IfSome o P → IfSome o Q
weaker P Q None f h = tt
weaker P Q (Some x) f h = f x h

own : (s k : Status) → s ≡ k → IsOwn k → IsOwn s
own s k e h = subst IsOwn (sym e) h

not_both : (name : List ℕ) (current : Option (List ℕ)) (taken : ℕ) → IsWithinLimit current taken → IsOverLimit name current taken → ⊥
not_both name None taken w o = let e = o.is_open in absurd cc
not_both name (Some n) taken w o = let l = o.over in omega (arith, w, l)

-- an input that is too long is the text's, where every other text is owed only by inputs of which none is
pub refused : (names : List (List ℕ)) (owed : List Input → Answer → Type 0) (before after : Reads) (a : Answer)
    → ((inputs : List Input) (name : List ℕ) → first_long inputs ≡ Some name → Says a TooLong (codes "too long: " ++ name) → owed inputs a)
    → Stopped names before after a → Served names owed before after a
refused names owed before after a law s = by_cause s.unread
  where
    here : Member s.name names
    here = subst (λ (ns : List (List ℕ)). Member s.name ns) (sym s.cut) (member_right s.name s.earlier (s.name ∷ s.later) (inl refl))

    by_cause : Unread before after s.name a → Served names owed before after a
    by_cause (failed rose within says) =
        let status : a.status ≡ ReadFailed = ap (λ (x : Answer). x.status) says in
        record {
          own = own a.status ReadFailed status (record { no_write_fault = λ e. absurd cc; no_memory = λ e. absurd cc });
          due = λ no. absurd (no status);
          failed = λ e. (s.name, here, record { rose = rose; says = ap (λ (x : Answer). x.text) says });
          too_long = λ e. absurd cc;
          told = λ name m over. absurd (not_both name after.current after.taken within over);
        }
    by_cause (long longer over says) =
        let status : a.status ≡ TooLong = ap (λ (x : Answer). x.status) says in
        let first : IfSome (inputs_told before.files names) (IsFirst s.name) = subst (λ (ns : List (List ℕ)). IfSome (inputs_told before.files ns) (IsFirst s.name)) (sym s.cut) (first_is before.files s.earlier s.read s.name s.later s.all_read longer) in
        record {
          own = own a.status TooLong status (record { no_write_fault = λ e. absurd cc; no_memory = λ e. absurd cc });
          due = λ no. weaker (IsFirst s.name) (λ (is : List Input). owed is a) (inputs_told before.files names) (λ is e. law is s.name e says) first;
          failed = λ e. absurd cc;
          too_long = λ e. (s.name, here, over, ap (λ (x : Answer). x.text) says);
          told = λ name m o. status;
        }

-- what is owed for the bytes of inputs that were read
pub answered_for : (names : List (List ℕ)) (owed : List Input → Answer → Type 0) (before after : Reads) (read : List (List ℕ)) (a : Answer)
    → AllRead before.files names read → IsClear names after → IsOfInputs a.status
    → ((inputs : List Input) → AreSeen read inputs → owed inputs a) → Served names owed before after a
answered_for names owed before after read a all clear of law =
    record {
      own = of.own;
      due = λ no. weaker (AreSeen read) (λ (is : List Input). owed is a) (inputs_told before.files names) law (inputs_are before.files names read all);
      failed = λ e. absurd (of.no_read_fault e);
      too_long = λ e. absurd (of.no_length e);
      told = λ name m over. absurd (none clear name m over);
    }
  where
    none : IsClear names after → (name : List ℕ) → Member name names → IsOverLimit name after.current after.taken → ⊥
    none (inl e) name m over = subst (λ (ns : List (List ℕ)). Member name ns) e m
    none (inr within) name m over = not_both name after.current after.taken within over

-- how a call ended whose answer was written
pub ended : {E : Type 0} (names : List (List ℕ)) (owed : List Input → Answer → Type 0) (before after : Reads) (out_before out_after : Wrote) (status : Status) (r : Result Answer E)
    → IfOk r (Served names owed before after) → IsWritten r out_before out_after status → Ended names owed before after out_before out_after status
ended names owed before after out_before out_after status (Ok a) served written = answered_by a served written
ended names owed before after out_before out_after status (Err e) served written = starved written.0 written.1

-- where no count rose, the call answered what is due, or had no memory
pub complete : (names : List (List ℕ)) (owed : List Input → Answer → Type 0) (before after : Reads) (out_before out_after : Wrote) (number : ℕ)
    → NoneFailed names before after out_before out_after
    → Ran names owed before after out_before out_after number → Answers before.files names owed number
complete names owed before after out_before out_after number none (status, is, how) = by_end how
  where
    by_text : (a : Answer) → Served names owed before after a → WroteText a out_before out_after status → Answers before.files names owed number
    by_text a served (whole e appended) = inr (a, is ∙ ap number_of e, served.due (λ failed. let f = served.failed failed in none.reads f.0 f.1 f.2.rose))
    by_text a served (part n e rose appended) = absurd (none.writes rose)

    by_end : Ended names owed before after out_before out_after status → Answers before.files names owed number
    by_end (answered_by a served wrote) = by_text a served wrote
    by_end (starved e nothing) = inl (is ∙ ap number_of e)

-- ---- status 2

-- an input that was not read is no fault of the words
pub stopped_is_no_usage : (names : List (List ℕ)) (before after : Reads) (a : Answer) → Stopped names before after a → a.status ≢ Usage
stopped_is_no_usage names before after a s = by_cause s.unread
  where
    by_cause : Unread before after s.name a → a.status ≢ Usage
    by_cause (failed rose within says) = λ e. let k : ReadFailed ≡ Usage = sym (ap (λ (x : Answer). x.status) says) ∙ e in absurd cc
    by_cause (long longer over says) = λ e. let k : TooLong ≡ Usage = sym (ap (λ (x : Answer). x.status) says) ∙ e in absurd cc

-- an answer that does not blame the words is written as such
pub written_is_no_usage : {E : Type 0} (r : Result Answer E) (out_before out_after : Wrote) (status : Status) → IfOk r (λ a. a.status ≢ Usage) → IsWritten r out_before out_after status → status ≢ Usage
written_is_no_usage (Ok a) ob oa status h (whole e appended) = λ q. h (sym e ∙ q)
written_is_no_usage (Ok a) ob oa status h (part n e rose appended) = λ q. let k : WriteFailed ≡ Usage = sym e ∙ q in absurd cc
written_is_no_usage (Err x) ob oa status h written = λ q. let k : OutOfMemory ≡ Usage = sym written.0 ∙ q in absurd cc

-- what has the number 2
pub two_is_usage : (status : Status) → number_of status ≡ 2 → status ≡ Usage
two_is_usage Done e = absurd cc
two_is_usage NoChoice e = absurd cc
two_is_usage Usage e = refl
two_is_usage ReadFailed e = absurd cc
two_is_usage TooLong e = absurd cc
two_is_usage TableRefused e = absurd cc
two_is_usage ProjectRefused e = absurd cc
two_is_usage TooWide e = absurd cc
two_is_usage WriteFailed e = absurd cc
two_is_usage OutOfMemory e = absurd cc
two_is_usage ProofRefused e = absurd cc
two_is_usage WriteBackRefused e = absurd cc
two_is_usage RequestRefused e = absurd cc
two_is_usage CTextRefused e = absurd cc
two_is_usage AnswersRefused e = absurd cc
two_is_usage TraceTooLong e = absurd cc

-- where an answer of status 2 is due and no input is asked for, a call answers 2, or 8 or 9
pub ends_as_usage : (owed : List Input → Answer → Type 0) (before after : Reads) (out_before out_after : Wrote) (status : Status) → ((a : Answer) → owed [] a → a.status ≡ Usage)
    → Ended [] owed before after out_before out_after status → (number_of status ≡ 2) ⊎ ((number_of status ≡ 8) ⊎ (number_of status ≡ 9))
ends_as_usage owed before after ob oa status law (starved e nothing) = inr (inr (ap number_of e))
ends_as_usage owed before after ob oa status law (answered_by a served wrote) = by_text wrote
  where
    no_fault : a.status ≢ ReadFailed
    no_fault = λ e. absurd (served.failed e).1

    by_text : WroteText a ob oa status → (number_of status ≡ 2) ⊎ ((number_of status ≡ 8) ⊎ (number_of status ≡ 9))
    by_text (whole e appended) = inl (ap number_of (e ∙ law a (served.due no_fault)))
    by_text (part n e rose appended) = inr (inl (ap number_of e))
