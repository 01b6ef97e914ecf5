mod Giving
mod Lists
mod Newest
