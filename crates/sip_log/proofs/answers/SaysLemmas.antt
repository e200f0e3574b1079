-- Lemmas of what an answer says of the whole input, by what it says of the bytes that are held and those that are left.
use Rattle.std.proofs.Common.{◌≡◌, ℕ, Bool, List, ◌++◌, Option, Some, Result, Ok, Err, ◌∙◌, ap}
use Rattle.std.specs.Option.{IfSome}
use Rattle.std.specs.Io.KnownBytes.{prepend_known}
use Rattle.sip_log.specs.declared.log_error.LogError.{LogError}
use Rattle.sip_log.specs.declared.log_error.LogError.TheVariants as errors
use Rattle.sip_standard.specs.declared.log_reason.LogReason.TheVariants as faults
use Rattle.sip_standard.specs.declared.log_reason.LogReason.{LogReason}
use Rattle.sip_log.specs.inner.Reads.{Reads}
use Rattle.sip_log.specs.Next.{Next, stops}
use Rattle.sip_log.specs.Told.{TellsWhatComes}
use Rattle.sip_log.proofs.answers.ToldLemmas.{told, known}

-- What follows is of a reader that has read on from its source, and of what P says of the bytes that come.
-- It held `held` before and `held2` after it, and the source had `left` and then `left2`; `before` and `mid` tell whether a read had failed.
module _ {B : Type 0} {held held2 : List ℕ} {left left2 : Option (List ℕ)} {before mid : Bool} (reads : Reads held held2 left left2 before mid)
    (P : List ℕ → Next B → Type 0) where
  -- where P holds of the held bytes and those left, an answer with a value tells what comes in the input by P
  pub Says-value : (rest : List ℕ) (next : List ℕ → Next B) → ((ys : List ℕ) → left2 ≡ Some ys → P (held2 ++ ys) (next (rest ++ ys)))
      → (mid ≡ before) × IfSome (prepend_known held left) (λ xs. (ys : List ℕ) × (prepend_known rest left2 ≡ Some ys) × P xs (next ys))
  Says-value rest next fact = (
    reads.fine,
    told reads (λ xs. (ys : List ℕ) × (prepend_known rest left2 ≡ Some ys) × P xs (next ys))
        (λ ys is. (rest ++ ys, ap (prepend_known rest) is, fact ys is)),
  )

  -- where P holds of the held bytes and those left, with a fault, an answer with that fault tells what comes in the input by P
  pub Says-fault : (reason : LogReason) → ((ys : List ℕ) → left2 ≡ Some ys → P (held2 ++ ys) (stops reason))
      → (mid ≡ before) × IfSome (prepend_known held left) (λ xs. P xs (stops reason))
  Says-fault reason fact = (reads.fine, told reads (λ xs. P xs (stops reason)) fact)

  -- a fault that is told by Q of the bytes after a part of the input is told by P of the input, where Q after it makes P
  Says-behind : (rest : List ℕ) (after : Bool) (Q : List ℕ → Next B → Type 0) (fault : LogReason) → ((ys : List ℕ) (n : Next B) → left2 ≡ Some ys → Q (rest ++ ys) n → P (held2 ++ ys) n)
      → (after ≡ mid) × IfSome (prepend_known rest left2) (λ xs. Q xs (stops fault)) → (after ≡ before) × IfSome (prepend_known held left) (λ xs. P xs (stops fault))
  Says-behind rest after Q fault step says = (
    says.0 ∙ reads.fine,
    told reads (λ xs. P xs (stops fault)) (λ ys is. step ys (stops fault) is (known rest left2 ys (λ xs. Q xs (stops fault)) is says.1)),
  )

  -- an answer that tells what comes after a part of the input by Q tells what comes in the input by P, where Q after it makes P
  pub Says-step : {A : Type 0} (rest : List ℕ) (new : Option (List ℕ)) (after : Bool) (Q : List ℕ → Next B → Type 0) (seen : A → List ℕ → Next B)
      (r : Result A LogError) → ((ys : List ℕ) (n : Next B) → left2 ≡ Some ys → Q (rest ++ ys) n → P (held2 ++ ys) n)
      → TellsWhatComes (prepend_known rest left2) new mid after Q seen r → TellsWhatComes (prepend_known held left) new before after P seen r
  -- a value is told of the whole input: zs is what is left after what Q tells, in the part as in the whole
  Says-step rest new after Q seen (Ok a) step says = (
    says.0 ∙ reads.fine,
    told reads (λ xs. (zs : List ℕ) × (new ≡ Some zs) × P xs (seen a zs))
        (λ ys is.
        let behind = known rest left2 ys (λ xs. (zs : List ℕ) × (new ≡ Some zs) × Q xs (seen a zs)) is says.1 in
        (behind.0, behind.1, step ys (seen a behind.0) is behind.2)),
  )
  -- each fault of the log is told as it was, and so is a failed source
  Says-step rest new after Q seen (Err errors.Header) step says = Says-behind rest after Q faults.Header step says
  Says-step rest new after Q seen (Err errors.EntryLine) step says = Says-behind rest after Q faults.EntryLine step says
  Says-step rest new after Q seen (Err errors.Truncated) step says = Says-behind rest after Q faults.Truncated step says
  Says-step rest new after Q seen (Err errors.Order) step says = Says-behind rest after Q faults.Order step says
  Says-step rest new after Q seen (Err errors.Limit) step says = Says-behind rest after Q faults.Limit step says
  Says-step rest new after Q seen (Err errors.Io) step says = says
  Says-step rest new after Q seen (Err errors.Memory) step says = tt
  Says-step rest new after Q seen (Err errors.Failed) step says = says
