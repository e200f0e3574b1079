-- Lemmas of the line at the front of what is left to read, by the bytes of it that are held.
use Rattle.std.proofs.Common.{◌≡◌, ◌⊎◌, inl, inr, ℕ, ◌+◌, ◌<◌, ◌≤◌, List, [], ◌∷◌, ◌++◌, length, take, drop, get_or, Some, None, refl, sym, ap, ◌∙◌, arith}
use Rattle.std.proofs.lemmas.List.{get_or-take, length-take, length-append}
use Rattle.std.proofs.Math.ListN.{get_or-append}
use Rattle.std.proofs.Math.Seq.{get_or-append_seam}
use Rattle.memchr.specs.Find.{IsFirstByte, is_byte}
use Rattle.sip_standard.specs.declared.format.Format.{Format}
use Rattle.sip_standard.specs.declared.log_reason.LogReason.TheVariants as faults
use Rattle.sip_standard.specs.LogSays.{line_feed, FrontLine, most_entries}
use Rattle.sip_standard.specs.LogEntry.{Item}
use Rattle.sip_log.specs.inner.Line.{longest_line, Head, HeadLine}
use Rattle.sip_log.specs.Next.{Next, stops}
use Rattle.sip_log.specs.inner.Entry.{HeadComes, LineComes, EntryComes}
use Rattle.sip_log.proofs.lines.SplitLemmas.{Cut, first-cut, first-none, first-of-front, cut-more}

-- What follows is of the first line feed among the first `most` of the bytes `held`, which the reader holds; `ys` follow them in the source.
module _ (most : ℕ) (held ys : List ℕ) where
  -- where a search finds the line feed at the place k, the bytes before k are the first line of what is left
  pub line-held : (k : ℕ) → IsFirstByte (is_byte line_feed) (take most held) (Some k)
      → Cut line_feed (held ++ ys) (take k held) (drop (k + 1) held ++ ys)
  line-held k found =
      let at = first-cut line_feed held k (first-of-front line_feed most held k found) in
      record { whole = cut-more (take k held) (drop (k + 1) held) line_feed held ys at.whole; first = at.first }

  -- where a search finds no line feed, and `most` bytes are held or no more are left, what is left has no line shorter than `most`
  pub line-none : IsFirstByte (is_byte line_feed) (take most held) None → (most ≤ length held) ⊎ (ys ≡ [])
      → (line behind : List ℕ) → held ++ ys ≡ line ++ line_feed ∷ behind → ¬ (length line < most)
  line-none none enough line behind whole short =
      let front : List ℕ = take most held in
      let len : length (held ++ ys) ≡ length line + length (line_feed ∷ behind) = ap length whole ∙ length-append line (line_feed ∷ behind) in
      let inside : length line < length held = inside-held enough len short in
      let low : length line < length front = omega (arith, length-take most held) in
      -- a line feed stands at the end of that line, within the first `most` bytes
      let here : get_or front (length line) 0 ≡ line_feed =
      get_or-take most held (length line) 0 short ∙ sym (get_or-append held ys 0 (length line) inside)
      ∙ ap (λ (t : List ℕ). get_or t (length line) 0) whole ∙ get_or-append_seam line line_feed behind 0 in
      (first-none line_feed front none).nowhere (length line) low here
    where
      -- a line shorter than `most` would lie within the held bytes, which have no line feed
      inside-held : (most ≤ length held) ⊎ (ys ≡ []) → length (held ++ ys) ≡ length line + length (line_feed ∷ behind) → length line < most
          → length line < length held
      inside-held (inl many) len short = omega arith
      inside-held (inr end) len short = omega (arith, ap length end, length-append held ys)

-- What follows is of the first line of what is left to read: the bytes `held`, which the reader holds, and `ys`, which follow in the source.
module _ (held ys : List ℕ) where
  -- where a search finds a line feed at the place k, the bytes before it are the front line
  pub FrontLine-held : (k : ℕ) → k < longest_line → IsFirstByte (is_byte line_feed) (take longest_line held) (Some k)
      → FrontLine (held ++ ys) (take k held) (drop (k + 1) held ++ ys)
  FrontLine-held k short found =
      let at = line-held longest_line held ys k found in
      record { whole = at.whole; first = at.first.nowhere; short = omega (arith, length-take k held) }

  -- where a search finds no line feed, and enough bytes are held or no more are left, there is no front line
  pub FrontLine-none : IsFirstByte (is_byte line_feed) (take longest_line held) None → (longest_line ≤ length held) ⊎ (ys ≡ [])
      → (line behind : List ℕ) → ¬ (FrontLine (held ++ ys) line behind)
  FrontLine-none none enough line behind is = line-none longest_line held ys none enough line behind is.whole is.short

-- What follows is what comes next by the front line of `held` and `ys`, where the entry before is at the moment `last`.
module _ (format : Format) (last : ℕ) (held ys : List ℕ) where
  -- where fewer than 32 bytes are left, without a line feed, the entry is truncated
  pub AtLine-truncated : IsFirstByte (is_byte line_feed) (take longest_line held) None → length held < longest_line → ys ≡ []
      → LineComes format last (held ++ ys) (stops faults.Truncated)
  AtLine-truncated none few end =
      inl (FrontLine-none held ys none (inr end), inl ((λ enough. omega (arith, ap length end, length-append held ys, enough)), refl))

  -- where no line feed is among the first 32 bytes, the line of the entry is at fault
  pub AtLine-long : IsFirstByte (is_byte line_feed) (take longest_line held) None → longest_line ≤ length held
      → LineComes format last (held ++ ys) (stops faults.EntryLine)
  AtLine-long none many =
      inl (FrontLine-none held ys none (inl many), inr (omega (arith, length-append held ys), refl))

  -- What follows is of a front line that ends at the place k, where the first line feed is.
  module _ (k : ℕ) (short : k < longest_line) (found : IsFirstByte (is_byte line_feed) (take longest_line held) (Some k)) where
    -- where the front line does not have the form of an entry's line, the line of the entry is at fault
    pub AtLine-other : ((head : Head) → ¬ (HeadLine format (take k held) head)) → LineComes format last (held ++ ys) (stops faults.EntryLine)
    AtLine-other other = inr (take k held, drop (k + 1) held ++ ys, FrontLine-held held ys k short found, inl (other, refl))

    -- where the front line has the form of an entry's line, what comes by it comes next
    pub AtLine-head : (head : Head) (next : Next Item) → HeadLine format (take k held) head → HeadComes last head (drop (k + 1) held ++ ys) next
        → LineComes format last (held ++ ys) next
    AtLine-head head next is behind =
        inr (take k held, drop (k + 1) held ++ ys, FrontLine-held held ys k short found, inr (head, is, behind))

-- where bytes are left and fewer than the most entries were read, what comes by the front line comes next
pub ComesNext-entry : (format : Format) (count last : ℕ) (held ys : List ℕ) (next : Next Item) → 1 ≤ length held → count < most_entries → LineComes format last (held ++ ys) next
    → EntryComes format count last (held ++ ys) next
ComesNext-entry format count last held ys next some few at =
    inr ((λ none. omega (arith, ap length none, length-append held ys, some)), inr (few, at))
