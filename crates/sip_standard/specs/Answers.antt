-- What the program writes of a log, and the status that it ends with. What it reads and writes is spoken of where it is known.
-- `input` is what the log has (beside `file`: the standard input), `file` what each file has, `before` and `after` what the output has; `None`: not known.
use Rattle.std.specs.Prelude.{◌≡◌, ◌++◌, ◌∷◌, [], ℕ, List, Option, Some, IfSome, codes, string_bytes}
use Rattle.std.specs.Io.KnownBytes.{Appends}
use Rattle.sip_standard.specs.LogSays.{line_feed}
use Rattle.sip_standard.specs.declared.verdict.Verdict.{Verdict}
use Rattle.sip_standard.specs.declared.listing.Listing.{Listing}
use Rattle.sip_standard.specs.declared.listing.Listing.TheVariants.{Text, Stopped, NoEntry}
use Rattle.sip_standard.specs.declared.shown.Shown.{Shown}
use Rattle.sip_standard.specs.VerdictOf.{IsVerdictOf}
use Rattle.sip_standard.specs.ListingOf.{IsListingOf}
use Rattle.sip_standard.specs.Showing.{IsShownOf}
use Rattle.sip_standard.specs.Rendering.{rendered}
use Rattle.sip_standard.specs.declared.asked.Asked.{Asked}
use Rattle.sip_standard.specs.declared.asked.Asked.TheVariants.{Input, Check, Show, States}
use Rattle.sip_standard.specs.Asked.{IsAskedBy}
use Rattle.sip_standard.specs.Status.{status_of, status_of_shown, status_of_listing}

-- what is written of an entry: its text, a verdict on a line, or that there is no such entry
abbrev pub listing_text : Listing → List ℕ
listing_text (Text text) = string_bytes text
listing_text (Stopped verdict) = rendered verdict ++ line_feed ∷ []
listing_text NoEntry = codes "no entry\n"

-- the verdict on this input is written, on a line, and this is its status
pub record IsJudged (input before after : Option (List ℕ)) (status : ℕ) : Type 0 where
  pub verdict : Verdict
  pub is : IfSome input (λ bytes. IsVerdictOf bytes verdict)
  pub written : Appends before after (rendered verdict ++ line_feed ∷ [])
  pub ends : status ≡ status_of verdict

-- what is shown of this input is written, and this is the status of how it ends
pub record IsShown (input before after : Option (List ℕ)) (status : ℕ) : Type 0 where
  pub shown : Shown
  pub is : IfSome input (λ bytes. (text : List ℕ) × IsShownOf bytes text shown × Appends before after text)
  pub ends : status ≡ status_of_shown shown

-- the listing of an entry of this input is written, and this is its status
pub record IsListed (entry : ℕ) (input before after : Option (List ℕ)) (status : ℕ) : Type 0 where
  pub listing : Listing
  pub is : IfSome input (λ bytes. IsListingOf bytes entry listing)
  pub written : Appends before after (listing_text listing)
  pub ends : status ≡ status_of_listing listing

-- what is asked for is written of this input, and this is its status
abbrev pub IsAnswer : Asked → (input before after : Option (List ℕ)) → ℕ → Type 0
IsAnswer Input input before after status = IsJudged input before after status
IsAnswer (Check file) input before after status = IsJudged input before after status
IsAnswer (Show file) input before after status = IsShown input before after status
IsAnswer (States file entry) input before after status = IsListed entry input before after status

-- the log that is asked for: the standard input, or what the file of that path has
abbrev pub log_for : Asked → (input : Option (List ℕ)) (file : List ℕ → Option (List ℕ)) → Option (List ℕ)
log_for Input input file = input
log_for (Check path) input file = file path.now
log_for (Show path) input file = file path.now
log_for (States path entry) input file = file path.now

-- what these words ask for is written of its log, and this is its status
pub record IsAnswerTo (words : List (List ℕ)) (input : Option (List ℕ)) (file : List ℕ → Option (List ℕ)) (before after : Option (List ℕ)) (status : ℕ) : Type 0 where
  pub asked : Asked
  pub is_asked : IsAskedBy words (Some asked)
  pub is : IsAnswer asked (log_for asked input file) before after status
