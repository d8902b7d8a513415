pub mod AllowedLemmas
pub mod MeetingLemmas
