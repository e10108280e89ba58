-- Which entries the layouts tell.
use Rattle.std.proofs.Common.{List, [], ◌∷◌, refl}
use Rattle.std.specs.List.{AllByRecursion}
use Rattle.bg_match.specs.Entry.{IsEntry}
use Rattle.bg_match.specs.declared.entries.Entry.{Entry}
use Rattle.bg_match.specs.declared.entries.Entry.TheVariants as entry
use Rattle.bg_wire.specs.Saved.SavedLayouts.{IsEntryIn}
use Rattle.bg_wire.specs.declared.saves.layouts.Layout.{Layout}
use Rattle.bg_wire.specs.declared.saves.layouts.Layout.TheVariants.{Two}
use Rattle.bg_wire.specs.Entries.EntryText.{entry_bytes}
use Rattle.bg_wire.specs.Entries.EntryReading.{entry_at}
use Rattle.bg_wire.proofs.Laws.{OneByte, Law, HasText, other_text}
use Rattle.bg_wire.proofs.EntryLaws.{Spells, entry_law}

-- in the second layout every entry has a text
told_in : (e : Entry) → IsEntry e → IsEntryIn Two e
told_in (entry.Opening x o) h = h
told_in (entry.Rolled dice) h = h
told_in entry.Doubled h = h
told_in entry.Taken h = h
told_in entry.Dropped h = h
told_in (entry.Moved turn) h = h
told_in (entry.Resigned level) h = h
told_in entry.Accepted h = h
told_in entry.Rejected h = h
told_in entry.Passed h = h

-- and what has a text is in its ranges
told_of : (layout : Layout) (e : Entry) → IsEntryIn layout e → IsEntry e
told_of layout (entry.Opening x o) h = h
told_of layout (entry.Rolled dice) h = h
told_of layout entry.Doubled h = h
told_of layout entry.Taken h = h
told_of layout entry.Dropped h = h
told_of layout (entry.Moved turn) h = h
told_of layout (entry.Resigned level) h = h
told_of layout entry.Accepted h = h
told_of layout entry.Rejected h = h
told_of layout entry.Passed h = tt

pub all_told : (entries : List Entry) → AllByRecursion IsEntry entries → AllByRecursion (IsEntryIn Two) entries
all_told [] h = tt
all_told (e ∷ entries) h = (told_in e h.0, all_told entries h.1)

pub all_told_of : (layout : Layout) (entries : List Entry) → AllByRecursion (IsEntryIn layout) entries
    → AllByRecursion IsEntry entries
all_told_of layout [] h = tt
all_told_of layout (e ∷ entries) h = (told_of layout e h.0, all_told_of layout entries h.1)

-- ---- the entries of packets

pub packet_entry_law : Law OneByte (entry_at Two) (Spells IsEntry entry_bytes)
packet_entry_law =
    other_text _ (λ e front h. (told_of Two e h.0, h.1)) (λ e front h. (told_in e h.0, h.1)) (entry_law Two)

pub has_packet_entry : HasText (Spells IsEntry entry_bytes)
has_packet_entry = (entry.Doubled, entry_bytes entry.Doubled, (tt, refl))
