-- Two answers to one closing are one: the tests go the same way, and number and place fix an answer.
use Rattle.std.specs.Prelude.{◌≡◌, Ok, Err}
use Rattle.rules.specs.Where.{where_both}
use Rattle.terms.specs.Part.{PartRead}
use Rattle.answers.specs.Answer.{Answer}
use Rattle.account.specs.Bytes.{bytes_of}
use Rattle.account_tests.specs.Unique.{one_answer, one_closing}
use Rattle.feed.specs.declared.Feed.{Feed}
use Rattle.feed.specs.Feed.{first_place}
use Rattle.feed.specs.Close.{Closes}

pub one_closed : (q : PartRead) (s : Feed) (a c : Answer) → Closes q s a → Closes q s c → a ≡ c
one_closed (Ok p) s a c h g =
    where_both (one_closing (bytes_of s.account.unfinished) (first_place s) s.account.total s.account.kept a c) (one_answer 2 0 a c) h g
one_closed (Err e) s a c h g = one_answer 1 0 a c h g
