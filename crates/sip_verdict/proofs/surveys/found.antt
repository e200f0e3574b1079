-- What a survey finds at each entry, and that each trouble is found once.
pub mod FirstFinding
pub mod Found
pub mod FoundParts
pub mod HasSurvey
pub mod Named
pub mod Numbered
pub mod Numbers
pub mod Once
pub mod OneFinding
pub mod OneSurvey
pub mod Ordered
pub mod Sound
