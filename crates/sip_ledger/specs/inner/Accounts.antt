use Rattle.std.specs.Prelude.{◌≡◌, ◌≢◌, ◌==◌, ◌&&◌, ◌||◌, ◌<◌, ◌≤◌, ◌+◌, ◌-◌, ◌^◌, ℕ, Bool, true, false, not, cond, Option, Some, None, List, [], ◌∷◌, ◌++◌, All, drop, get_or, length, map, min, nat_le, nat_lt, replicate, take}
use Rattle.std.specs.List.{list_any}
use Rattle.sip_ledger.specs.declared.debt.Debt.{Debt}
use Rattle.sip_ledger.specs.declared.debt.Entry.{Entry}
use Rattle.sip_ledger.specs.declared.run.Run.{Run}
use Rattle.sip_ledger.specs.declared.accounts.account.Account.{Account}
use Rattle.sip_ledger.specs.declared.accounts.gains.Flags.{Flags}
use Rattle.sip_ledger.specs.declared.accounts.gains.Gains.{Gains}
use Rattle.sip_ledger.specs.declared.accounts.gains.Seek.{Seek}
use Rattle.sip_ledger.specs.declared.accounts.strikes.Strike.{Strike}
use Rattle.sip_ledger.specs.Accounts.{debts_print}
use Rattle.sip_ledger.specs.Lists.{from_to}
use Rattle.sip_ledger.specs.Entries.{debts_from}
use Rattle.sip_ledger.specs.inner.Places.{IsNext, holds}
use Rattle.sip_numbers.specs.Numbers.{numbers_of}
use Rattle.sip_numbers.specs.declared.numbers.Word.{Word}

-- Accounts over one list of gains. A place is the number of a gain; from its place on, an account owes what it gained, but for what is struck.

-- what stands for a gain that was dropped
abbrev pub blank : Entry
blank = record { message = 0; deadline = 0 }

-- the gain at a place
abbrev pub entry_at : List Entry → ℕ → Entry
entry_at entries k = get_or entries k blank

-- all gains: blanks for those that were dropped, and after them those that are kept
unfoldable pub entries_of : Gains → List Entry
entries_of gains = replicate (gains.end - length gains.entries.items) blank ++ gains.entries.items

-- whether the gain at the place is left: it stands under its message
unfoldable pub is_left : Gains → ℕ → Bool
is_left gains k = holds gains.messages (entry_at (entries_of gains) k).message k

-- the least number after the last one, or of all
abbrev pub least_after : Option ℕ → ℕ
least_after None = 0
least_after (Some last) = last + 1

-- the gain at the place is kept
pub record IsUndropped (gains : Gains) (k : ℕ) : Type 0 where
  pub from : gains.end ≤ k + length gains.entries.items
  pub within : k < gains.end

-- the deadlines of the entries never fall
abbrev pub AreRising : List Entry → Type 0
AreRising entries = (i k : ℕ) (e : Entry) → i ≤ k → k < length entries → (get_or entries i e).deadline ≤ (get_or entries k e).deadline

-- what stands for the flags of a place past the gains: nothing must be sent there, nothing is left, and nothing is newest
abbrev pub no_flags : Flags
no_flags = record { must = false; left = false; newest = false }

-- the flags of the gain at place k
abbrev pub flags_at : Gains → ℕ → Flags
flags_at gains k = get_or gains.flags.items (k - (gains.end - length gains.entries.items)) no_flags

-- each gain that is kept has its flags, and they are right; where one is newest, no gain that is kept before it has a greater message
pub record AreFlags (gains : Gains) : Type 0 where
  pub many : length gains.flags.items ≡ length gains.entries.items
  pub left : (k : ℕ) → IsUndropped gains k → (flags_at gains k).left ≡ is_left gains k
  pub must : (k : ℕ) → IsUndropped gains k → (flags_at gains k).must ≡ numbers_of gains.musts k
  pub newest : (j k : ℕ) → j ≤ k → IsUndropped gains j → IsUndropped gains k → (flags_at gains k).newest ≡ true → (entry_at (entries_of gains) j).message ≤ (entry_at (entries_of gains) k).message

-- what holds of the gains at all times: no more are kept than there were, and a place is a number of the code; what stands under a message are gains
-- of it that are kept; what must be sent was gained; deadlines never fall where `rises` says so; no message is above the highest; the flags are right
pub record AreGains (gains : Gains) : Type 0 where
  pub long : length gains.entries.items ≤ gains.end
  pub small : gains.end < 2 ^ 64
  pub messages : (m k : ℕ) → holds gains.messages m k ≡ true → IsUndropped gains k × ((entry_at (entries_of gains) k).message ≡ m)
  pub musts : (k : ℕ) → numbers_of gains.musts k ≡ true → k < gains.end
  pub rises : gains.rises ≡ true → AreRising gains.entries.items
  pub highest : (k : ℕ) → IsUndropped gains k → (entry_at (entries_of gains) k).message ≤ gains.highest
  pub flags : AreFlags gains

-- the place stands under the debt's message, and among those of what must be sent if it must; no other place moves
pub record IsNoted (place : ℕ) (debt : Debt) (named named' : List (ℕ × ℕ)) (must_be must_be' : List Word) : Type 0 where
  pub messages : (m k : ℕ) → holds named' m k ≡ cond (m == debt.message && k == place) true (holds named m k)
  pub must : numbers_of must_be' place ≡ debt.must
  pub musts : (k : ℕ) → k ≢ place → numbers_of must_be' k ≡ numbers_of must_be k

-- a gain of the debt is put after the others, and its place is noted
pub record IsGain (debt : Debt) (old new : Gains) : Type 0 where
  pub gained : AreGains new
  pub entries : entries_of new ≡ entries_of old ++ (record { message = debt.message; deadline = debt.deadline }) ∷ []
  pub noted : IsNoted (length (entries_of old)) debt old.messages new.messages old.musts new.musts

-- old and new gains are the same, and stand under the same messages
pub record AreSameGains (old new : Gains) : Type 0 where
  pub gained : AreGains new
  pub entries : entries_of new ≡ entries_of old
  pub messages : (m k : ℕ) → holds new.messages m k ≡ holds old.messages m k
  pub musts : (k : ℕ) → numbers_of new.musts k ≡ numbers_of old.musts k

-- the gain at the place is not left any more
pub record IsLetGo (place : ℕ) (old new : Gains) : Type 0 where
  pub gained : AreGains new
  pub entries : entries_of new ≡ entries_of old
  pub end : new.end ≡ old.end
  pub long : length new.entries.items ≡ length old.entries.items
  pub here : (m : ℕ) → holds new.messages m place ≡ false
  pub others : (m k : ℕ) → k ≢ place → holds new.messages m k ≡ holds old.messages m k
  pub musts : (k : ℕ) → k ≢ place → numbers_of new.musts k ≡ numbers_of old.musts k

-- the gains before the place are dropped
pub record IsDropped (place : ℕ) (old new : Gains) : Type 0 where
  pub long : length (entries_of new) ≡ length (entries_of old)
  pub entries : (k : ℕ) → place ≤ k → entry_at (entries_of new) k ≡ entry_at (entries_of old) k
  pub messages : new.messages ≡ old.messages
  pub musts : new.musts ≡ old.musts

-- whether the strike says that a gain of this message at place k is not owed
abbrev pub is_out : ℕ → ℕ → Strike → Bool
is_out message k strike = strike.message == message && (nat_le strike.from k && nat_lt k strike.to)

-- whether one of the strikes says that a gain of this message at place k is not owed
unfoldable pub is_struck : List Strike → ℕ → ℕ → Bool
is_struck strikes message k = list_any (is_out message k) strikes

-- the strikes of an account
abbrev pub strikes_of : List Strike → Account → List Strike
strikes_of strikes account = from_to account.first account.last strikes

-- whether the account owes what was gained at place k: it is left, and not struck
unfoldable pub owes_at : Gains → List Strike → Account → ℕ → Bool
owes_at gains strikes account k =
    nat_le account.start k && (nat_lt k account.end && (is_left gains k && not (is_struck (strikes_of strikes account) (entry_at (entries_of gains) k).message k)))

-- whether the account must send what was gained at place k
unfoldable pub must_at : Gains → Account → ℕ → Bool
must_at gains account k = numbers_of gains.musts k && nat_le account.soft k

-- the debts of an account
unfoldable pub account_debts : Gains → List Strike → Account → List Debt
account_debts gains strikes account = debts_from (owes_at gains strikes account) (must_at gains account) 0 (entries_of gains)

-- an account lies within the gains and the strikes, strikes nothing past the gains (`bound`), begins with a debt if it has any, and has the print of
-- its debts
pub record IsAccount (gains : Gains) (strikes : List Strike) (account : Account) : Type 0 where
  pub order : account.start ≤ account.end
  pub end : account.end ≤ length (entries_of gains)
  pub soft : account.soft ≤ length (entries_of gains)
  pub first : account.first ≤ account.last
  pub last : account.last ≤ length strikes
  pub bound : (m k : ℕ) → length (entries_of gains) ≤ k → is_struck (strikes_of strikes account) m k ≡ false
  pub begins : account.start < account.end → owes_at gains strikes account account.start ≡ true
  pub print : account.print ≡ debts_print (account_debts gains strikes account)

-- the account owes the same as another one, but for the gain at one place
pub record IsWithout (place : ℕ) (owes owes' : ℕ → Bool) : Type 0 where
  pub gone : owes' place ≡ false
  pub others : (k : ℕ) → k ≢ place → owes' k ≡ owes k

-- `next` is the first place from `from` on at which the account owes something, or its end
pub record IsAfter (gains : Gains) (strikes : List Strike) (a : Account) (from next : ℕ) : Type 0 where
  pub within : (from ≤ next) × (next ≤ a.end)
  pub before : (k : ℕ) → from ≤ k → k < next → owes_at gains strikes a k ≡ false
  pub is : next < a.end → owes_at gains strikes a next ≡ true

-- the account, of which no gain below the place must be sent any more
abbrev pub softened_account : ℕ → Account → Account
softened_account place a = record { start = a.start; end = a.end; soft = place; first = a.first; last = a.last; print = a.print }

-- all accounts, over gains and strikes
pub record AreAccounts (gains : Gains) (strikes : List Strike) (accounts : List Account) : Type 0 where
  pub gained : AreGains gains
  pub each : All (IsAccount gains strikes) accounts

-- the debts of each account
abbrev pub accounts_debts : Gains → List Strike → List Account → List (List Debt)
accounts_debts gains strikes accounts = map (account_debts gains strikes) accounts

-- a strike of the gain's message that ends before its place, from where on nothing of that message is left
pub record Reaches (gains : Gains) (place : ℕ) (strike : Strike) : Type 0 where
  pub message : strike.message ≡ (entry_at (entries_of gains) place).message
  pub from : strike.from ≤ place
  pub to : strike.to ≤ place
  pub between : (k : ℕ) → strike.to ≤ k → k < place → holds gains.messages (entry_at (entries_of gains) place).message k ≡ false

-- what a seek knows is right: from its `low` on, the message is left first at its place, or nowhere
abbrev pub IsSeek : Gains → ℕ → Seek → Type 0
IsSeek gains message seek = IsNext gains.messages message seek.low seek.place

-- whether a send of the message at t pays the gain at a place
abbrev pub pays_at : List Entry → ℕ → ℕ → ℕ → Bool
pays_at entries message t k = (entry_at entries k).message == message && nat_le t (entry_at entries k).deadline

-- the first place that is owed and that a send of the message at t pays
pub record IsFirstPayable (entries : List Entry) (owes : ℕ → Bool) (message t place : ℕ) : Type 0 where
  pub owed : owes place ≡ true
  pub pays : pays_at entries message t place ≡ true
  pub before : (k : ℕ) → k < place → owes k ≡ true → pays_at entries message t k ≡ false

-- a send at t of a message that passes the test pays the gain at a place
abbrev pub PaysSomeAt : List Entry → (ℕ → Bool) → ℕ → ℕ → Type 0
PaysSomeAt entries test t k = (test (entry_at entries k).message ≡ true) × (t ≤ (entry_at entries k).deadline)

-- the first place that is owed and whose gain a send at t of a message that passes the test pays, if there is one
abbrev pub IsFirstPaying : List Entry → (ℕ → Bool) → (ℕ → Bool) → ℕ → Option ℕ → Type 0
IsFirstPaying entries owes test t None = (k : ℕ) → owes k ≡ true → ¬ (PaysSomeAt entries test t k)
IsFirstPaying entries owes test t (Some place) =
    (owes place ≡ true) × PaysSomeAt entries test t place × ((k : ℕ) → k < place → owes k ≡ true → ¬ (PaysSomeAt entries test t k))

-- the lesser of two places, where there are some
abbrev pub sooner : Option ℕ → Option ℕ → Option ℕ
sooner None other = other
sooner (Some place) None = Some place
sooner (Some place) (Some other) = Some (min place other)

-- the strikes from the index `first` on strike what was gained at the place too, and nothing more of what is left; those before them stay, and past
-- the place nothing more is struck (`bound`)
pub record StrikeToo (gains : Gains) (place first : ℕ) (old new : List Strike) : Type 0 where
  pub before : take first new ≡ take first old
  pub struck : (k : ℕ) → is_left gains k ≡ true → is_struck (drop first new) (entry_at (entries_of gains) k).message k
      ≡ (is_struck (drop first old) (entry_at (entries_of gains) k).message k || k == place)
  pub bound : (m k : ℕ) → place < k → is_struck (drop first old) m k ≡ false → is_struck (drop first new) m k ≡ false

-- strikes are put after the others: from the account's start on they strike, of what is left, what the account's own do, and what was gained from one
-- place up to another too; past the gains they strike nothing that its own do not (`bound`)
pub record IsWritten (gains : Gains) (from to : ℕ) (old new : List Strike) (a : Account) : Type 0 where
  pub kept : take (length old) new ≡ old
  pub struck : (k : ℕ) → a.start ≤ k → is_left gains k ≡ true → is_struck (drop (length old) new) (entry_at (entries_of gains) k).message k
      ≡ (is_struck (strikes_of old a) (entry_at (entries_of gains) k).message k || (nat_le from k && nat_lt k to))
  pub bound : (m k : ℕ) → length (entries_of gains) ≤ k → is_struck (strikes_of old a) m k ≡ false → is_struck (drop (length old) new) m k ≡ false

-- b is the account a with other strikes: from its start on they strike, of what is left, what those of a do, and what was gained from one place up to
-- another too; past the gains nothing more is struck (`bound`)
pub record IsStruck (gains : Gains) (from to : ℕ) (old new : List Strike) (a b : Account) : Type 0 where
  pub same : b ≡ record a { first = b.first; last = b.last }
  pub first : b.first ≤ b.last
  pub last : b.last ≤ length new
  pub struck : (k : ℕ) → a.start ≤ k → is_left gains k ≡ true → is_struck (strikes_of new b) (entry_at (entries_of gains) k).message k
      ≡ (is_struck (strikes_of old a) (entry_at (entries_of gains) k).message k || (nat_le from k && nat_lt k to))
  pub bound : (m k : ℕ) → length (entries_of gains) ≤ k → is_struck (strikes_of old a) m k ≡ false → is_struck (strikes_of new b) m k ≡ false

-- what was gained at the place is the debt
pub record IsGainAt (gains : Gains) (debt : Debt) (place : ℕ) : Type 0 where
  pub within : place < length (entries_of gains)
  pub left : holds gains.messages debt.message place ≡ true
  pub message : (entry_at (entries_of gains) place).message ≡ debt.message
  pub deadline : (entry_at (entries_of gains) place).deadline ≡ debt.deadline
  pub must : numbers_of gains.musts place ≡ debt.must

-- the account can gain the debt at this place, after all that it owes
pub record IsNextGain (gains : Gains) (strikes : List Strike) (account : Account) (debt : Debt) (place : ℕ) : Type 0 where
  pub gain : IsGainAt gains debt place
  pub end : account.end ≤ place
  pub soft : account.soft ≤ place
  pub free : is_struck (strikes_of strikes account) debt.message place ≡ false

-- all accounts over the old gains are accounts over the new ones, and owe what they owed
pub record KeepsAccounts (old new : Gains) : Type 0 where
  pub each : (strikes : List Strike) (accounts : List Account) → All (IsAccount old strikes) accounts →
      All (IsAccount new strikes) accounts × (accounts_debts new strikes accounts ≡ accounts_debts old strikes accounts)

-- before the place what is past at t is no longer owed; from the place on the same is owed as before
pub record IsExpiredTo (t : ℕ) (entries : List Entry) (m o o' : ℕ → Bool) (place : ℕ) : Type 0 where
  pub gone : (k : ℕ) → k < place → o' k ≡ (o k && (m k || nat_le t (entry_at entries k).deadline))
  pub later : (k : ℕ) → place ≤ k → o' k ≡ o k

-- the accounts owe over other gains what they owed
pub record AreKept (strikes : List Strike) (rows : List Account) (old new : Gains) : Type 0 where
  pub accounts : AreAccounts new strikes rows
  pub debts : accounts_debts new strikes rows ≡ accounts_debts old strikes rows

-- nothing before the place is left, and the accounts owe what they owed
pub record IsClearedTo (place : ℕ) (strikes : List Strike) (rows : List Account) (old new : Gains) : Type 0 where
  pub kept : AreKept strikes rows old new
  pub end : new.end ≡ old.end
  pub long : length new.entries.items ≡ length old.entries.items
  pub none : (m k : ℕ) → k < place → holds new.messages m k ≡ false

-- each account that owes something starts at the place or after it
abbrev pub StartFrom : ℕ → List Account → Type 0
StartFrom place rows = All (λ a. a.start < a.end → place ≤ a.start) rows

-- what a test says is struck of what is left from one place up to another, the strikes strike too
abbrev pub AreStruckToo : Gains → (ℕ → ℕ → Bool) → List Strike → ℕ → ℕ → Type 0
AreStruckToo gains test strikes from to = (k : ℕ) → from ≤ k → k < to → is_left gains k ≡ true → test (entry_at (entries_of gains) k).message k ≡ true
    → is_struck strikes (entry_at (entries_of gains) k).message k ≡ true

-- two accounts owe the same at the next n places of each, which are none but where both are at one place
pub record SharesNext (gains : Gains) (strikes : List Strike) (one other : Account) (at beside n : ℕ) : Type 0 where
  pub end : at + n ≤ one.end
  pub end_beside : beside + n ≤ other.end
  pub place : 0 < n → at ≡ beside
  pub same : (k : ℕ) → at ≤ k → k < at + n → (owes_at gains strikes one k ≡ owes_at gains strikes other k) × (must_at gains one k ≡ must_at gains other k)

-- the new strikes strike what the old ones strike of what is left from a place on, and strike nothing that the old ones do not
pub record AreThinned (gains : Gains) (from : ℕ) (old new : List Strike) : Type 0 where
  pub same : (k : ℕ) → from ≤ k → is_left gains k ≡ true → is_struck new (entry_at (entries_of gains) k).message k ≡ is_struck old (entry_at (entries_of gains) k).message k
  pub among : (m k : ℕ) → is_struck old m k ≡ false → is_struck new m k ≡ false

-- the strike strikes nothing that is left from a place on
abbrev pub StrikesNoneFrom : Gains → ℕ → Strike → Type 0
StrikesNoneFrom gains from strike = (k : ℕ) → from ≤ k → is_left gains k ≡ true → is_out (entry_at (entries_of gains) k).message k strike ≡ false

-- strikes that are thinned from these strikes are written after the old ones
pub record AreAppended (gains : Gains) (from : ℕ) (strikes old new : List Strike) : Type 0 where
  pub more : List Strike
  pub whole : new ≡ old ++ more
  pub thinned : AreThinned gains from strikes more

-- the account, with strikes that strike the same of what is left from its start on written after others
pub record IsMoved (gains : Gains) (strikes old new : List Strike) (a b : Account) : Type 0 where
  pub kept : take (length old) new ≡ old
  pub same : b ≡ record a { first = b.first; last = b.last }
  pub first : b.first ≤ b.last
  pub last : b.last ≤ length new
  pub own : AreThinned gains a.start (strikes_of strikes a) (strikes_of new b)

-- the new rows are accounts over the new strikes, and owe what the rows owe over the old ones
pub record AreMoved (gains : Gains) (strikes : List Strike) (rows : List Account) (strikes' : List Strike) (rows' : List Account) : Type 0 where
  pub each : All (IsAccount gains strikes') rows'
  pub debts : accounts_debts gains strikes' rows' ≡ accounts_debts gains strikes rows

-- there is a last run, and it is of this debt
pub record EndsWith (runs : List Run) (debt : Debt) : Type 0 where
  pub filled : 0 < length runs
  pub last : (d : Run) → (get_or runs (length runs - 1) d).debt ≡ debt
