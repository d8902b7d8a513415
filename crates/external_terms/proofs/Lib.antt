pub mod Words
pub mod FormLemmas
pub mod CutLemmas
pub mod HeadLemmas
pub mod TermLemmas
pub mod ValueLemmas
