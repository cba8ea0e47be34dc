-- What is owed for inputs, from what is owed for their bytes.
use Rattle.std.proofs.Common.{◌≡◌, ◌≢◌, ◌∙◌, inl, inr, ℕ, zero, suc, ◌<◌, ◌≤◌, List, [], ◌∷◌, ◌++◌, length, map, false, Option, Some, Result, Ok, Err, ap, refl, sym, subst, arith}
use Rattle.std.specs.Prelude.{IfOk, MatchOption, codes, slice_index_or}
use Rattle.answers.specs.Said.{Says, answered, number_of}
use Rattle.answers.specs.declared.answer.Answer.{Answer}
use Rattle.answers.specs.declared.answer.Status.{Status}
use Rattle.answers.specs.declared.answer.Status.TheVariants.{OutOfMemory, TooLong, Usage}
use Rattle.call_io.proofs.ServedLemmas.{answered_for, ends_as_usage, two_is_usage}
use Rattle.call_io.specs.Gathered.{AllRead, AreSeen, IsOfInputs}
use Rattle.call_io.specs.Inputs.{Files, Input, Reads, Wrote, first_long}
use Rattle.call_io.specs.Ran.{Ended, IsWritten, Served}
use Rattle.refusal.specs.Refusals.{Refuses}
use Rattle.cmd_words.specs.declared.command.Command.{Command}
use Rattle.cmd_words.specs.declared.fault.UsageFault.{UsageFault}
use Rattle.refusal.specs.declared.refusal.Refusal.{Refusal}
use Rattle.refusal.specs.declared.refusal.Refusal.TheVariants as refusal
use Rattle.res_base.specs.Lists.{Each}
use Rattle.resolver.specs.Due.{Due, IsUsage, OfBytes, OfCommand, names_of, waits}
use Rattle.resolver.specs.Opening.{AreInputs}
use Rattle.resolver.specs.Refusing.{IsSaid}

-- inputs that were read
pub read_whole : (c : Command) (read : List (List ℕ)) (a : Answer) → OfBytes c read a → (inputs : List Input) → AreSeen read inputs → OfCommand c inputs a
read_whole c read a due inputs seen =
    subst (λ (o : Option (List ℕ)). MatchOption o (OfBytes c (map (λ (i : Input). i.bytes) inputs) a) (λ name. Says a TooLong (codes "too long: " ++ name))) (sym seen.none_long)
    (subst (λ (bytes : List (List ℕ)). OfBytes c bytes a) (sym seen.bytes) due)

-- an input that is too long
pub too_long : (c : Command) (a : Answer) (inputs : List Input) (name : List ℕ) → first_long inputs ≡ Some name → Says a TooLong (codes "too long: " ++ name) → OfCommand c inputs a
too_long c a inputs name first says =
    subst (λ (o : Option (List ℕ)). MatchOption o (OfBytes c (map (λ (i : Input). i.bytes) inputs) a) (λ n. Says a TooLong (codes "too long: " ++ n))) (sym first) says

-- the inputs that were read, as a command takes them
pub as_inputs : (files : Files) (names read : List (List ℕ)) → AllRead files names read → AreInputs (length names) read
as_inputs files [] [] h = record { count_is = refl; few = tt }
as_inputs files [] (b ∷ bs) h = absurd h
as_inputs files (n ∷ ns) [] h = absurd h
as_inputs files (n ∷ ns) (b ∷ bs) h =
    let more = as_inputs files ns bs h.1 in
    record { count_is = ap suc more.count_is; few = (h.0.few, more.few) }

-- an input at a place is not too long
pub few_at : (files : List (List ℕ)) (k : ℕ) → Each (λ (bytes : List ℕ). length bytes ≤ 67108864) files → k < length files → length (slice_index_or files k []) ≤ 67108864
few_at [] k h l = absurd (omega (arith, l))
few_at (b ∷ bs) zero h l = h.0
few_at (b ∷ bs) (suc k) h l = few_at bs k h.1 (omega (arith, l))

-- two things that hold of an answer
pub if_both : {X E : Type 0} (r : Result X E) (P Q R : X → Type 0) → IfOk r P → IfOk r Q → ((x : X) → P x → Q x → R x) → IfOk r R
if_both (Ok x) P Q R p q f = f x p q
if_both (Err e) P Q R p q f = tt

usage : (a : Answer) (text : List ℕ) → a ≡ answered Usage text → IsOfInputs a.status
usage a text e = subst IsOfInputs (sym (ap (λ (x : Answer). x.status) e)) (record { own = record { no_write_fault = λ q. absurd cc; no_memory = λ q. absurd cc }; no_read_fault = λ q. absurd cc; no_length = λ q. absurd cc })

-- what is said of words that have no reading
pub unread_words : (f : Refusal UsageFault) (asked : Result Command UsageFault) (r : Reads) (a : Answer) → Refuses f asked → IsSaid f a → Served (names_of asked) (Due asked) r r a
unread_words (refusal.Fault fault) asked r a h says =
    subst (λ (q : Result Command UsageFault). Served (names_of q) (Due q) r r a) (sym h)
    (answered_for [] (Due (Err fault)) r r [] a tt (inl refl) (usage a _ says) (λ inputs seen. says))
unread_words refusal.OutOfMemory asked r a h says = absurd says

-- words that have no reading are no command that waits
pub no_waiting : {E : Type 0} (f : Refusal UsageFault) (asked : Result Command UsageFault) (r : Result Answer E) (out_before out_after : Wrote) (status : Status)
    → Refuses f asked → IfOk r (IsSaid f) → IsWritten r out_before out_after status → status ≢ OutOfMemory → waits asked ≡ false
no_waiting (refusal.Fault fault) asked r ob oa status h said written differs = ap waits h
no_waiting refusal.OutOfMemory asked (Ok a) ob oa status h said written differs = absurd said
no_waiting refusal.OutOfMemory asked (Err e) ob oa status h said written differs = absurd (differs written.0)

-- ---- status 2

-- the status of a command's answer is another
pub no_usage : (asked : Result Command UsageFault) (command : Command) (status : Status) → asked ≡ Ok command → status ≢ Usage → IsUsage asked (number_of status)
no_usage asked command status e differs = record {
  only = λ two. absurd (differs (two_is_usage status two));
  always = λ fault unread. let k : Ok command ≡ Err fault = sym e ∙ unread in absurd cc;
}

-- the status of what is said of words
pub said_of_words : {E : Type 0} (f : Refusal UsageFault) (asked : Result Command UsageFault) (before after : Reads) (r : Result Answer E) (out_before out_after : Wrote) (status : Status)
    → Refuses f asked → IfOk r (IsSaid f) → IsWritten r out_before out_after status
    → Ended (names_of asked) (Due asked) before after out_before out_after status → IsUsage asked (number_of status)
said_of_words (refusal.Fault fault) asked before after r ob oa status h said written ended = record {
  only = λ two. (fault, h);
  always = λ other unread.
      ends_as_usage (Due (Err other)) before after ob oa status (λ a says. ap (λ (x : Answer). x.status) says)
      (subst (λ (q : Result Command UsageFault). Ended (names_of q) (Due q) before after ob oa status) unread ended);
}
said_of_words refusal.OutOfMemory asked before after (Ok a) ob oa status h said written ended = absurd said
said_of_words refusal.OutOfMemory asked before after (Err e) ob oa status h said written ended = record {
  only = λ two. let k : 9 ≡ 2 = sym (ap number_of written.0) ∙ two in absurd cc;
  always = λ other unread. inr (inr (ap number_of written.0));
}
