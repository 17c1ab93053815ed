-- The report of a run for people at a terminal. Each node has one line, in the order of the list; those that aborted or
-- failed come last, between empty lines. The totals are of the tests: how many there are, and how many ended in each way
-- in which any did. Where containers aborted or failed, a second line says how many: the totals of tests leave them out.
--
--     ID STATUS closed N
--
--     ID STATUS closed N: FAULT (+M)
--
--     tests N STATUS N STATUS N
--     containers aborted N failed N
--
-- Where `closed N` is left out nothing was closed. No text reaches the terminal as an order to it: control characters of
-- ids and faults, and those that turn the direction of a text (Unicode's UAX #9, "Directional Formatting Characters"),
-- are written `\n`, `\r`, `\t` or `\u{1b}`. With colours STATUS is green (`successful`), yellow (`aborted`), red
-- (`failed`) or dim (`skipped`), by the escapes of ECMA-48. The format is not from JUnit.
use Rattle.std.specs.Prelude.{ℕ, Bool, true, false, not, ◌&&◌, ◌||◌, ◌==◌, nat_le, codes, encode_utf8, List, [], ◌∷◌, ◌++◌, if◌then◌else◌}
use Rattle.std.specs.List.{count_by, flat_map, slice_index_or}
use Rattle.std.specs.Fmt.{decimal, digits}
use Rattle.std.specs.Str.{chars}
use Rattle.std.specs.Char.{is_control}
use Rattle.ext_ids.specs.Grammar.{Pair, id_text}
use Rattle.ext_lifecycle.specs.declared.status.Status.{Status}
use Rattle.ext_lifecycle.specs.declared.status.Status.TheVariants as statuses
use Rattle.ext_lifecycle.specs.FaultTexts.{NodeOutcome}
use Rattle.ext_report.specs.Report.{counts_of, fault_part, is_status, status_text, tells_fault}
use Rattle.ext_report.specs.declared.totals.TestCounts.{TestCounts}

-- ---- texts

-- It is in this range.
abbrev pub is_among : ℕ → ℕ → ℕ → Bool
is_among first last c = nat_le first c && nat_le c last

-- It turns the direction of a text: an embedding, an override or an isolate, or the end of one.
abbrev pub is_direction : ℕ → Bool
is_direction c = is_among 0x202A 0x202E c || is_among 0x2066 0x2069 c

-- The code of a character, as `\u{1b}`.
abbrev pub code_text : ℕ → List ℕ
code_text c = codes "\\u{" ++ digits 16 false c ++ codes "}"

-- A character as it is written.
abbrev pub visible_character : ℕ → List ℕ
visible_character c =
    if c == 9 then codes "\\t"
    else if c == 10 then codes "\\n"
    else if c == 13 then codes "\\r"
    else if is_control c || is_direction c then code_text c
    else encode_utf8 c

-- A text as it is written.
abbrev pub visible : List ℕ → List ℕ
visible text = flat_map visible_character (chars text)

-- A character of a text of several lines, whose line feeds end its lines.
abbrev pub line_character : ℕ → List ℕ
line_character c = if c == 10 then codes "\n" else visible_character c

abbrev pub visible_lines : List ℕ → List ℕ
visible_lines text = flat_map line_character (chars text)

-- Lines as they are printed: at a terminal each character is escaped that may not be shown, but for the line feeds.
abbrev pub shown_text : Bool → List ℕ → List ℕ
shown_text at_terminal lines = if at_terminal then visible_lines lines else lines

-- ---- colours

-- The escape with these parameters.
abbrev pub escape : List ℕ → List ℕ
escape parameters = 27 ∷ codes "[" ++ parameters ++ codes "m"

abbrev pub color_of : Status → List ℕ
color_of statuses.Successful = codes "32"
color_of statuses.Aborted = codes "33"
color_of statuses.Failed = codes "31"
color_of statuses.Skipped = codes "2"

-- A status in its colour, if there are colours.
abbrev pub shown_status : Bool → Status → List ℕ
shown_status false status = status_text status
shown_status true status = escape (color_of status) ++ status_text status ++ escape (codes "0")

-- ---- lines

-- How many values were closed, if any were.
abbrev pub closed_part : ℕ → List ℕ
closed_part closed = if closed == 0 then [] else codes " closed " ++ decimal closed

abbrev pub shown_line : Bool → List Pair → NodeOutcome → List ℕ
shown_line colored id r =
    visible (id_text id) ++ codes " " ++ shown_status colored r.status ++ closed_part r.closed
    ++ visible (fault_part r) ++ codes "\n"

-- The line, if the node neither aborted nor failed.
abbrev pub line_unless_fault : Bool → List Pair → NodeOutcome → List ℕ
line_unless_fault colored id r = if tells_fault r.status then [] else shown_line colored id r

-- The line, if it did.
abbrev pub line_if_fault : Bool → List Pair → NodeOutcome → List ℕ
line_if_fault colored id r = if tells_fault r.status then shown_line colored id r else []

-- A line of each result, in the order of the list.
abbrev pub each_line : (List Pair → NodeOutcome → List ℕ) → List (List Pair) → List NodeOutcome → List ℕ
each_line line ids rs = flat_map (λ r. line (slice_index_or ids r.node []) r) rs

-- A text between empty lines, unless it is empty.
abbrev pub apart : List ℕ → List ℕ
apart [] = []
apart (first ∷ rest) = codes "\n" ++ (first ∷ rest) ++ codes "\n"

-- ---- totals

-- How many ended so, if any did.
abbrev pub count_part : Bool → Status → ℕ → List ℕ
count_part colored status count =
    if count == 0 then [] else codes " " ++ shown_status colored status ++ codes " " ++ decimal count

abbrev pub shown_counts : Bool → TestCounts → List ℕ
shown_counts colored n =
    codes "tests " ++ decimal n.tests ++ count_part colored statuses.Successful n.successful
    ++ count_part colored statuses.Aborted n.aborted ++ count_part colored statuses.Failed n.failed
    ++ count_part colored statuses.Skipped n.skipped ++ codes "\n"

-- How many containers ended with this status.
abbrev pub containers_with : Status → List NodeOutcome → ℕ
containers_with status rs = count_by (λ r. not r.is_test && is_status r.status status) rs

-- The line that says how many aborted and failed, if any did.
abbrev pub containers_line : Bool → ℕ → ℕ → List ℕ
containers_line colored aborted failed = if (aborted == 0) && (failed == 0) then []
    else codes "containers" ++ count_part colored statuses.Aborted aborted
    ++ count_part colored statuses.Failed failed ++ codes "\n"

abbrev pub terminal_of : Bool → List (List Pair) → List NodeOutcome → List ℕ
terminal_of colored ids rs =
    each_line (line_unless_fault colored) ids rs ++ apart (each_line (line_if_fault colored) ids rs)
    ++ shown_counts colored (counts_of rs)
    ++ containers_line colored (containers_with statuses.Aborted rs) (containers_with statuses.Failed rs)
