-- The definitions of `book`, and of the crates that they rest on, opened by one name, for cases that are computed.
-- Assumes nothing.
use Rattle.book.specs.Book.{fresh_book, setting_slot, figure_slot, is_joined, is_marked, setting_of, figure_of, index_of, is_complete, has_sixteen_bits, every, most, settings_in_range, figures_in_range, marks_in_range, indices_in_range, rates_in_range, within_limits, settings_taken, figures_taken, marks_taken, only_taken, in_range}
use Rattle.calls.proofs.Opened.{calls-opened}

unfoldable pub book-opened : Unit {0}
unfolding fresh_book setting_slot figure_slot is_joined is_marked setting_of figure_of index_of is_complete has_sixteen_bits every most settings_in_range figures_in_range marks_in_range indices_in_range rates_in_range within_limits settings_taken figures_taken marks_taken only_taken in_range calls-opened
book-opened = tt
