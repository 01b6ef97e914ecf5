mod Lists
mod Plain
mod Reading
mod TextLemmas
mod Walks
